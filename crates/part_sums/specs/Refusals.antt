-- Why parts are refused, and in which line.
--
-- Example: a text of the small problem's run whose first part is left out is refused as a Gap, in the line after the whole's `end`.
-- proofs/SumExamples.antt shows it.
use Rattle.std.specs.Prelude.{ℕ, ◌≡◌, ◌<◌, ◌≤◌, ◌++◌, List, [], ◌∷◌}
use Rattle.text_lines.specs.declared.refusal.TextRefusal.{TextRefusal}
use Rattle.text_lines.specs.declared.refusal.TextRefusal.TheVariants as refusals
use Rattle.cover_problem.specs.Problem.{ProblemValue}
use Rattle.x_steps.specs.StateValue.{StateValue}
use Rattle.x_steps.specs.Steps.{Fits}
use Rattle.x_branches.specs.RunOrder.{ComesBefore}
use Rattle.x_snapshot.specs.Snapshot.{SnapshotValue, IsSnapshot}
use Rattle.part_sums.specs.declared.fault.JoinFault.{JoinFault}
use Rattle.part_sums.specs.declared.fault.JoinFault.TheVariants.{Gap, Overlap, Twice}
use Rattle.part_sums.specs.Parts.{CountedPart, PartsJoin, join_text, tail_text, EachJoined}
use Rattle.part_sums.specs.Reading.{line_after}

-- what is true in each problem whose search has both states
abbrev pub EachFit : StateValue → StateValue → (ProblemValue → Type 0) → Type 0
EachFit s t P = (p : ProblemValue) → Fits p s → Fits p t → P p

-- a part that begins at `next` stands wrong: the part before it, or the whole, begins at `before`, and it should begin at `here`
abbrev pub IsMisplaced : ProblemValue → StateValue → StateValue → StateValue → JoinFault → Type 0
IsMisplaced p before here next Gap = ComesBefore p here next
IsMisplaced p before here next Overlap = ComesBefore p next here × (next ≡ before → ⊥)
IsMisplaced p before here next Twice = ComesBefore p next here × (next ≡ before)
IsMisplaced p before here next _ = ⊥

-- a text is that of no whole and its parts
abbrev pub IsNotJoined : List ℕ → Type 0
IsNotJoined text = EachJoined text (λ v parts. ⊥)

-- where the last of these parts begins; if there are none, where the whole does
abbrev pub last_begin : StateValue → List CountedPart → StateValue
last_begin s [] = s
last_begin s (q ∷ qs) = last_begin q.snapshot.state qs

-- parts of a whole that join, and after them the lines of another part's snapshot, which begins elsewhere
pub record IsMisplacedPart (text : List ℕ) (fault : JoinFault) (line : ℕ) : Type 0 where
  pub whole : SnapshotValue
  pub parts : List CountedPart
  pub here : StateValue
  pub next : SnapshotValue
  pub rest : List ℕ
  pub join : PartsJoin whole whole.state parts here
  pub snapshot : IsSnapshot next
  pub problem : next.problem ≡ whole.problem
  pub text_is : text ≡ join_text whole parts ++ (tail_text next ++ rest)
  pub line_is : line ≡ line_after (join_text whole parts)
  pub misplaced : IsMisplaced whole.problem (last_begin whole.state parts) here next.state fault

-- what a fault of the order of parts says; the others say nothing here
abbrev pub SaysPlace : List ℕ → JoinFault → ℕ → Type 0
SaysPlace text Gap line = IsMisplacedPart text Gap line
SaysPlace text Overlap line = IsMisplacedPart text Overlap line
SaysPlace text Twice line = IsMisplacedPart text Twice line
SaysPlace text _ line = Unit {0}

-- a text is refused: it is that of no whole and its parts, and a fault of order is so; unless memory ran out
abbrev pub IsJoinRefused : List ℕ → TextRefusal JoinFault → Type 0
IsJoinRefused text (refusals.Fault fault line) = IsNotJoined text × SaysPlace text fault line
IsJoinRefused text refusals.OutOfMemory = Unit {0}

-- the line of a refusal is one of the text, or the one where it is cut off
abbrev pub HasLine : List ℕ → TextRefusal JoinFault → Type 0
HasLine text (refusals.Fault fault line) = (0 < line) × (line ≤ line_after text)
HasLine text refusals.OutOfMemory = Unit {0}
