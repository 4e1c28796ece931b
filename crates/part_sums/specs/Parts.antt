-- The text of a whole and its parts: the snapshot of the whole, and for each part the lines of its snapshot from `from` to `end`, and then
-- its answer.
--
-- Example: the small problem's run in two parts, up to the cut 4 and from there on. proofs/SumExamples.antt shows the text.
use Rattle.std.specs.Prelude.{ℕ, ◌≡◌, ◌++◌, List, [], ◌∷◌, map, flat_map}
use Rattle.text_lines.specs.Writing.{text_of}
use Rattle.cover_problem.specs.Grammar.{written}
use Rattle.x_steps.specs.StateValue.{StateValue}
use Rattle.x_branches.specs.Branch.{end_of}
use Rattle.x_snapshot.specs.Snapshot.{SnapshotValue, IsSnapshot, cut_if_any}
use Rattle.x_snapshot.specs.Writer.{head_lines, position_lines, lines_of_breaks, end_line, snapshot_text}
use Rattle.part_sums.specs.declared.total.Counted.{Counted}
use Rattle.part_sums.specs.Answers.{CountsValue, all_counts_sum, answer_lines, sum_lines, IsAnswer, HasNumbersOf}

-- a part: its snapshot, and what was counted of it
pub record CountedPart : Type 0 where
  pub snapshot : SnapshotValue
  pub counts : CountsValue

-- the part that has these
abbrev pub counted_part : SnapshotValue → CountsValue → CountedPart
counted_part snapshot counts = record { snapshot = snapshot; counts = counts }

-- the text of a snapshot before its line `from`: its version and its problem
unfoldable pub head_text : SnapshotValue → List ℕ
head_text v = text_of (head_lines v) ++ written v.problem

-- and from that line to its line `end`
unfoldable pub tail_text : SnapshotValue → List ℕ
tail_text v = text_of (position_lines v) ++ text_of (lines_of_breaks v.problem v.breaks) ++ text_of end_line

-- a part's lines
abbrev pub part_text : CountedPart → List ℕ
part_text q = tail_text q.snapshot ++ text_of (answer_lines q.counts)

-- the lines of all parts
abbrev pub parts_text : List CountedPart → List ℕ
parts_text parts = flat_map part_text parts

-- the text of a whole and its parts
abbrev pub join_text : SnapshotValue → List CountedPart → List ℕ
join_text v parts = snapshot_text v ++ parts_text parts

-- the state that ends a snapshot's branch
abbrev pub last_state : SnapshotValue → StateValue
last_state v = end_of (cut_if_any v.problem v.hi)

-- a part of the whole v: a snapshot of the same problem, in the same version, with an answer that it can have
pub record IsCountedPart (v : SnapshotValue) (q : CountedPart) : Type 0 where
  pub snapshot : IsSnapshot q.snapshot
  pub problem : q.snapshot.problem ≡ v.problem
  pub head : head_text q.snapshot ≡ head_text v
  pub answer : IsAnswer q.counts
  pub numbers : HasNumbersOf q.snapshot.state (last_state q.snapshot) q.counts

-- parts of the whole v that join from s to t: the first is at s, each later one is where the one before ends, and the last one ends at t
abbrev pub PartsJoin : SnapshotValue → StateValue → List CountedPart → StateValue → Type 0
PartsJoin v s [] t = s ≡ t
PartsJoin v s (q ∷ qs) t = IsCountedPart v q × (q.snapshot.state ≡ s) × PartsJoin v (last_state q.snapshot) qs t

-- a text is that of the whole v and its parts, which join from its state to the end of its branch
pub record IsJoined (text : List ℕ) (v : SnapshotValue) (parts : List CountedPart) : Type 0 where
  pub whole : IsSnapshot v
  pub join : PartsJoin v v.state parts (last_state v)
  pub text_is : text ≡ join_text v parts

-- what is counted of all parts
abbrev pub parts_sum : List CountedPart → CountsValue
parts_sum parts = all_counts_sum (map (λ q. q.counts) parts)

-- the answer: the lines of the sum
abbrev pub sum_text : Counted → SnapshotValue → List CountedPart → List ℕ
sum_text counted v parts = text_of (sum_lines counted v.problem (parts_sum parts))

-- what is true of each whole and its parts of which a text is
abbrev pub EachJoined : List ℕ → (SnapshotValue → List CountedPart → Type 0) → Type 0
EachJoined text P = (v : SnapshotValue) (parts : List CountedPart) → IsJoined text v parts → P v parts
