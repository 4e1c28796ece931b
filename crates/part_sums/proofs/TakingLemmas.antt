-- Parts that are taken, one after the other.
use Rattle.std.proofs.Common.{◌≡◌, inr, ℕ, zero, suc, ◌+◌, ◌<◌, ◌≤◌, List, [], ◌∷◌, ◌++◌, length, codes, Ok, refl, sym, ◌∙◌, ap, subst, arith, length-append}
use Rattle.text_lines.specs.Each.{◌>>=◌}
use Rattle.text_lines.specs.Writing.{spaced, line_text, text_of}
use Rattle.text_lines.specs.Answers.{in_line, IsFaultOf}
use Rattle.text_lines.specs.declared.refusal.Refusal.{Refusal}
use Rattle.text_lines.specs.declared.refusal.Refusal.TheVariants as refusals
use Rattle.text_lines.proofs.ResultLemmas.{ok_is, bind_ok}
use Rattle.x_steps.specs.StateValue.{StateValue}
use Rattle.x_snapshot.specs.Snapshot.{SnapshotValue}
use Rattle.x_snapshot.specs.Judged.{snapshot_of}
use Rattle.part_sums.specs.declared.fault.JoinFault.{JoinFault}
use Rattle.part_sums.specs.Answers.{CountsValue, count_line, levels_line, answer_lines}
use Rattle.part_sums.specs.Reading.{up_to_end, part_from, tail_in, part_answer_in, line_of}
use Rattle.part_sums.specs.Refusals.{EachFit, IsMisplaced}
use Rattle.part_sums.specs.Taking.{JoiningValue, joining_with, IsNextPart, IsElsewhere, HasNoNext, IsPartTaken, IsTakenRefused, AreTaken}
use Rattle.part_sums.proofs.EndLemmas.{end_back}
use Rattle.part_sums.proofs.AnswerLemmas.{answer_back, part_answer_back}

-- a part that begins elsewhere
pub elsewhere : (head rest answer : List ℕ) (old : JoiningValue) (part : SnapshotValue) (fault : JoinFault) (b h s : StateValue) (k : CountsValue) → old ≡ joining_with b h k → s ≡ part.state → tail_in head rest ≡ Ok (part, answer)
    → EachFit h s (λ p. s ≡ h → ⊥) → EachFit h s (λ p. IsMisplaced p b h s fault) → HasNoNext head old rest fault
elsewhere head rest answer old part fault b h s k e f tail apart misplaced =
    inr (
      part,
      answer,
      subst (λ (o : JoiningValue). IsElsewhere head o rest fault part answer) (sym e) (record {
        tail = tail;
        apart = subst (λ (t : StateValue). EachFit h t (λ p. t ≡ h → ⊥)) f apart;
        misplaced = subst (λ (t : StateValue). EachFit h t (λ p. IsMisplaced p b h t fault)) f misplaced;
      }),
    )

-- an answer that is refused
pub answer_refused : (head : List ℕ) (old : JoiningValue) (text rest : List ℕ) (part : SnapshotValue) (answer : List ℕ) (line : ℕ) (refusal : Refusal JoinFault) → IsNextPart head old rest part answer → line ≡ line_of text answer → IsFaultOf refusal (part_answer_in part answer)
    → IsTakenRefused head old text rest (in_line line refusal)
answer_refused head old text rest part answer line (refusals.Fault f) i e h = inr (record { part = part; answer = answer; is_next = i; read = h; line_is = e })
answer_refused head old text rest part answer line refusals.OutOfMemory i e h = tt

-- *what is left gets shorter*

pub line_some : (words : List (List ℕ)) → 0 < length (line_text words)
line_some words = omega (arith, length-append (spaced words) (10 ∷ []))

pub answer_some : (c : CountsValue) → 0 < length (text_of (answer_lines c))
answer_some c =
    let first = count_line (codes "visits") c.visits in
    let others = text_of (count_line (codes "steps") c.steps ∷ levels_line c.levels ∷ (codes "end" ∷ []) ∷ []) in
    let some = line_some first in
    let l : length (text_of (answer_lines c)) ≡ length (line_text first) + length others = length-append (line_text first) others in
    omega (arith, l, some)

tail_within : (head text : List ℕ) (r : SnapshotValue × List ℕ) → tail_in head text ≡ Ok r → length r.1 ≤ length text
unfolding tail_in
tail_within head text r h =
    let a = bind_ok (up_to_end text) (λ s. part_from (snapshot_of (head ++ s.0)) >>= λ w. Ok (w, s.1)) r h in
    let b = bind_ok (part_from (snapshot_of (head ++ a.0.0))) (λ w. Ok (w, a.0.1)) r a.2 in
    let same : length a.0.1 ≡ length r.1 = ap (λ (s : SnapshotValue × List ℕ). length s.1) (ok_is (b.0, a.0.1) r b.2) in
    let l = ap length (end_back text a.0 a.1) ∙ length-append a.0.0 a.0.1 in
    omega (arith, same, l)

pub next_shorter : (head : List ℕ) (old : JoiningValue) (rest : List ℕ) (part : SnapshotValue) (answer : List ℕ) (counts : CountsValue) (next : List ℕ) → IsNextPart head old rest part answer → part_answer_in part answer ≡ Ok (counts, next) → length next < length rest
next_shorter head old rest part answer counts next i h =
    let a = tail_within head rest (part, answer) i.tail in
    let b = ap length (answer_back answer (counts, next) (part_answer_back part answer (counts, next) h).0).0 ∙ length-append (text_of (answer_lines counts)) next in
    let c = answer_some counts in
    omega (arith, a, b, c)

-- one part more
pub taken_push : (head : List ℕ) (n : ℕ) (old mid new : JoiningValue) (rest after next : List ℕ) → AreTaken head n old rest mid after → IsPartTaken head mid after new next → AreTaken head (suc n) old rest new next
taken_push head zero old mid new rest after next t i =
    (new, next, subst (λ (o : JoiningValue). IsPartTaken head o rest new next) (sym t.0) (subst (λ r. IsPartTaken head mid r new next) (sym t.1) i), (refl, refl))
taken_push head (suc n) old mid new rest after next t i = (t.0, t.1, t.2, taken_push head n t.0 mid new t.1 after next t.3 i)
