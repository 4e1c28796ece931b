-- How parts are taken one after the other, and the first that is refused.
use Rattle.std.specs.Prelude.{ℕ, zero, suc, ◌≡◌, ◌<◌, ◌⊎◌, List, [], length, filter, Ok, Err}
use Rattle.text_lines.specs.Lines.{is_newline}
use Rattle.text_lines.specs.declared.refusal.Refusal.{Refusal}
use Rattle.text_lines.specs.declared.refusal.Refusal.TheVariants as parts
use Rattle.text_lines.specs.declared.refusal.TextRefusal.{TextRefusal}
use Rattle.text_lines.specs.declared.refusal.TextRefusal.TheVariants as texts
use Rattle.x_steps.specs.StateValue.{StateValue}
use Rattle.x_snapshot.specs.Snapshot.{SnapshotValue}
use Rattle.part_sums.specs.declared.fault.JoinFault.{JoinFault}
use Rattle.part_sums.specs.declared.fault.JoinFault.TheVariants.{LeftOut}
use Rattle.part_sums.specs.Answers.{CountsValue, both_counts}
use Rattle.part_sums.specs.Parts.{last_state}
use Rattle.part_sums.specs.Reading.{tail_in, part_answer_in, line_of}
use Rattle.part_sums.specs.Refusals.{EachFit, IsMisplaced}

-- what was taken: where the last part begins and ends, and what is counted of all
pub record JoiningValue : Type 0 where
  pub before : StateValue
  pub here : StateValue
  pub counts : CountsValue

-- that which has these
abbrev pub joining_with : StateValue → StateValue → CountsValue → JoiningValue
joining_with before here counts = record { before = before; here = here; counts = counts }

-- *the next part*

-- a part's snapshot stands at the front of a text, and begins where the last part ends
pub record IsNextPart (head : List ℕ) (old : JoiningValue) (rest : List ℕ) (part : SnapshotValue) (answer : List ℕ) : Type 0 where
  pub tail : tail_in head rest ≡ Ok (part, answer)
  pub place : EachFit old.here part.state (λ p. part.state ≡ old.here)

-- a part's snapshot stands there, and begins elsewhere
pub record IsElsewhere (head : List ℕ) (old : JoiningValue) (rest : List ℕ) (fault : JoinFault) (part : SnapshotValue) (answer : List ℕ) : Type 0 where
  pub tail : tail_in head rest ≡ Ok (part, answer)
  pub apart : EachFit old.here part.state (λ p. part.state ≡ old.here → ⊥)
  pub misplaced : EachFit old.here part.state (λ p. IsMisplaced p old.before old.here part.state fault)

-- no part's snapshot stands there, or one that begins elsewhere
abbrev pub HasNoNext : List ℕ → JoiningValue → List ℕ → JoinFault → Type 0
HasNoNext head old rest fault = (tail_in head rest ≡ Err fault)
    ⊎ ((part : SnapshotValue) × (answer : List ℕ) × IsElsewhere head old rest fault part answer)

-- the same, unless memory ran out
abbrev pub IsNextRefused : List ℕ → JoiningValue → List ℕ → Refusal JoinFault → Type 0
IsNextRefused head old rest (parts.Fault fault) = HasNoNext head old rest fault
IsNextRefused head old rest parts.OutOfMemory = Unit {0}

-- the next part and its answer were taken
pub record IsPartTaken (head : List ℕ) (old : JoiningValue) (rest : List ℕ) (new : JoiningValue) (next : List ℕ) : Type 0 where
  pub part : SnapshotValue
  pub answer : List ℕ
  pub counts : CountsValue
  pub is_next : IsNextPart head old rest part answer
  pub read : part_answer_in part answer ≡ Ok (counts, next)
  pub new_is : new ≡ joining_with part.state (last_state part) (both_counts old.counts counts)

-- the next part's answer has a fault, or it can't be the part's
pub record HasNoAnswer (head : List ℕ) (old : JoiningValue) (text rest : List ℕ) (fault : JoinFault) (line : ℕ) : Type 0 where
  pub part : SnapshotValue
  pub answer : List ℕ
  pub is_next : IsNextPart head old rest part answer
  pub read : part_answer_in part answer ≡ Err fault
  pub line_is : line ≡ line_of text answer

-- there is no next part, or none with an answer; the line is where that begins
abbrev pub IsTakenRefused : List ℕ → JoiningValue → List ℕ → List ℕ → TextRefusal JoinFault → Type 0
IsTakenRefused head old text rest (texts.Fault fault line) =
    (HasNoNext head old rest fault × (line ≡ line_of text rest)) ⊎ HasNoAnswer head old text rest fault line
IsTakenRefused head old text rest texts.OutOfMemory = Unit {0}

-- *all parts*

-- so many parts were taken, each from what stands after the one before
abbrev pub AreTaken : List ℕ → ℕ → JoiningValue → List ℕ → JoiningValue → List ℕ → Type 0
AreTaken head zero old rest new next = (old ≡ new) × (rest ≡ next)
AreTaken head (suc n) old rest new next =
    (mid : JoiningValue) × (after : List ℕ) × IsPartTaken head old rest mid after × AreTaken head n mid after new next

-- all parts were taken
abbrev pub AllTaken : List ℕ → JoiningValue → List ℕ → JoiningValue → Type 0
AllTaken head old rest new = (n : ℕ) × AreTaken head n old rest new []

-- some parts were taken, and something stands after them that is refused
abbrev pub IsOneRefused : List ℕ → JoiningValue → List ℕ → List ℕ → TextRefusal JoinFault → Type 0
IsOneRefused head old text rest refusal = (n : ℕ) × (mid : JoiningValue) × (after : List ℕ)
    × AreTaken head n old rest mid after × (0 < length after) × IsTakenRefused head mid text after refusal

-- the parts end elsewhere than the whole
abbrev pub IsEndRefused : JoiningValue → SnapshotValue → List ℕ → TextRefusal JoinFault → Type 0
IsEndRefused j v text (texts.Fault fault line) =
    (j.here ≡ last_state v → ⊥) × (fault ≡ LeftOut) × (line ≡ length (filter is_newline text))
IsEndRefused j v text texts.OutOfMemory = Unit {0}
