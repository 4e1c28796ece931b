-- Parts that were taken join, and a text has no other parts.
use Rattle.std.proofs.Common.{◌≡◌, ℕ, zero, suc, List, [], ◌∷◌, ◌++◌, length, Option, None, Some, Ok, refl, sym, ◌∙◌, ap, ap₂, subst, arith, append_assoc, append-nil, length-append}
use Rattle.text_lines.specs.Writing.{text_of}
use Rattle.text_lines.proofs.ResultLemmas.{ok_is}
use Rattle.cover_problem.specs.Problem.{ProblemValue}
use Rattle.x_steps.specs.StateValue.{StateValue}
use Rattle.x_steps.specs.Steps.{Fits}
use Rattle.x_steps.proofs.RunLemmas.{done_fits}
use Rattle.x_branches.specs.Branch.{end_of}
use Rattle.x_branches.proofs.CutLemmas.{cut_fits}
use Rattle.x_snapshot.specs.Snapshot.{SnapshotValue, IsSnapshot, IsCutIfAny, cut_if_any}
use Rattle.x_snapshot.specs.Writer.{snapshot_text}
use Rattle.part_sums.specs.declared.total.Counted.{Counted}
use Rattle.part_sums.specs.Answers.{CountsValue, no_counts, both_counts, answer_lines}
use Rattle.part_sums.specs.Parts.{CountedPart, counted_part, head_text, tail_text, part_text, parts_text, last_state, IsCountedPart, PartsJoin, IsJoined, parts_sum, sum_text}
use Rattle.part_sums.specs.Reading.{whole_in, tail_in, answer_in, part_answer_in}
use Rattle.part_sums.specs.Refusals.{last_begin}
use Rattle.part_sums.specs.Taking.{JoiningValue, joining_with, AreTaken}
use Rattle.part_sums.proofs.SumLemmas.{both_assoc, none_before, none_after}
use Rattle.part_sums.proofs.TailLemmas.{IsTail, whole_back, whole_again, tail_back, tail_again}
use Rattle.part_sums.proofs.AnswerLemmas.{answer_back, answer_again, part_answer_back}
use Rattle.part_sums.proofs.TakingLemmas.{answer_some}

last_fits : (p : ProblemValue) (hi : Option (List ℕ)) → IsCutIfAny p hi → Fits p (end_of (cut_if_any p hi))
last_fits p None c = done_fits p
last_fits p (Some path) c = cut_fits p path c

pub end_fits : (p : ProblemValue) (w : SnapshotValue) → IsSnapshot w → w.problem ≡ p → Fits p (last_state w)
end_fits p w s e = subst (λ (q : ProblemValue). Fits q (last_state w)) e (last_fits w.problem w.hi s.on_run.high)

pub state_fits : (p : ProblemValue) (w : SnapshotValue) → IsSnapshot w → w.problem ≡ p → Fits p w.state
state_fits p w s e = subst (λ (q : ProblemValue). Fits q w.state) e s.on_run.fits

-- *what was taken*

-- parts that join stand at the front of a text, and are what was taken
pub record IsUpTo (v : SnapshotValue) (old : JoiningValue) (rest : List ℕ) (new : JoiningValue) (next : List ℕ) : Type 0 where
  pub parts : List CountedPart
  pub join : PartsJoin v old.here parts new.here
  pub text_is : rest ≡ parts_text parts ++ next
  pub counts : new.counts ≡ both_counts old.counts (parts_sum parts)
  pub before : new.before ≡ last_begin old.before parts
  pub fits : Fits v.problem new.here

module _ (v : SnapshotValue) (g : IsSnapshot v) where
  none_taken : (old new : JoiningValue) (rest next : List ℕ) → Fits v.problem old.here → old ≡ new → rest ≡ next → IsUpTo v old rest new next
  none_taken old new rest next f e t = record {
    parts = [];
    join = ap (λ (j : JoiningValue). j.here) e;
    text_is = t;
    counts = ap (λ (j : JoiningValue). j.counts) (sym e) ∙ sym (none_after old.counts);
    before = ap (λ (j : JoiningValue). j.before) (sym e);
    fits = subst (λ (j : JoiningValue). Fits v.problem j.here) e f;
  }

  -- one part, and those after it
  one_taken : (old mid new : JoiningValue) (rest answer after next : List ℕ) (w : SnapshotValue) (c : CountsValue) → Fits v.problem old.here → IsTail v rest w answer → w.state ≡ old.here → part_answer_in w answer ≡ Ok (c, after) → mid ≡ joining_with w.state (last_state w) (both_counts old.counts c)
      → (Fits v.problem mid.here → IsUpTo v mid after new next) → IsUpTo v old rest new next
  one_taken old mid new rest answer after next w c f t place h e later =
      let read = part_answer_back w answer (c, after) h in
      let a = answer_back answer (c, after) read.0 in
      let here : mid.here ≡ last_state w = ap (λ (j : JoiningValue). j.here) e in
      let i = later (subst (Fits v.problem) (sym here) (end_fits v.problem w t.snapshot t.problem)) in
      let q = counted_part w c in
      let part : IsCountedPart v q = record { snapshot = t.snapshot; problem = t.problem; head = t.head; answer = a.1; numbers = read.1 } in
      record {
        parts = q ∷ i.parts;
        join = (part, place, subst (λ (s : StateValue). PartsJoin v s i.parts new.here) here i.join);
        text_is = t.text_is ∙ ap (λ x. tail_text w ++ x) (a.0 ∙ ap (λ x. text_of (answer_lines c) ++ x) i.text_is) ∙ flat (tail_text w) (text_of (answer_lines c)) (parts_text i.parts) next;
        counts = i.counts ∙ ap (λ (j : JoiningValue). both_counts j.counts (parts_sum i.parts)) e ∙ both_assoc old.counts c (parts_sum i.parts);
        before = i.before ∙ ap (λ (j : JoiningValue). last_begin j.before i.parts) e;
        fits = i.fits;
      }
    where
      flat : (a b c d : List ℕ) → a ++ (b ++ (c ++ d)) ≡ ((a ++ b) ++ c) ++ d
      flat a b c d = simp append_assoc

  pub up_to : (n : ℕ) (old new : JoiningValue) (rest next : List ℕ) → Fits v.problem old.here → AreTaken (head_text v) n old rest new next → IsUpTo v old rest new next
  up_to zero old new rest next f t = none_taken old new rest next f t.0 t.1
  up_to (suc n) old new rest next f t =
      let i = t.2 in
      let tail = tail_back v g rest (i.part, i.answer) i.is_next.tail in
      one_taken old t.0 new rest i.answer t.1 next i.part i.counts f tail (i.is_next.place v.problem f (state_fits v.problem i.part tail.snapshot tail.problem)) i.read i.new_is
      (λ k. up_to n t.0 new t.1 next k t.3)

  -- *a text has no other parts*

  pub part_some : (q : CountedPart) (rest : List ℕ) → part_text q ++ rest ≡ [] → ⊥
  part_some q rest e =
      let a = answer_some q.counts in
      let l = ap length e in
      let m = length-append (part_text q) rest in
      let k = length-append (tail_text q.snapshot) (text_of (answer_lines q.counts)) in
      omega (arith, a, l, m, k)

  -- the part at the front of a text
  pub part_read : (q : CountedPart) (rest : List ℕ) → IsCountedPart v q → tail_in (head_text v) (part_text q ++ rest) ≡ Ok (q.snapshot, text_of (answer_lines q.counts) ++ rest)
  part_read q rest i =
      ap (tail_in (head_text v)) (append_assoc (tail_text q.snapshot) (text_of (answer_lines q.counts)) rest)
      ∙ tail_again v g q.snapshot (text_of (answer_lines q.counts) ++ rest) i.snapshot i.head

  -- two parts at the front of one text are the same, and so is what stands after them
  same_part : (p q : CountedPart) (a b : List ℕ) → IsCountedPart v p → IsCountedPart v q → part_text p ++ a ≡ part_text q ++ b → (p ≡ q) × (a ≡ b)
  same_part p q a b i j e =
      let first = ok_is _ _ (sym (part_read p a i) ∙ ap (tail_in (head_text v)) e ∙ part_read q b j) in
      let snapshot : p.snapshot ≡ q.snapshot = ap (λ x. x.0) first in
      let answers : text_of (answer_lines p.counts) ++ a ≡ text_of (answer_lines q.counts) ++ b = ap (λ x. x.1) first in
      let second = ok_is _ _ (sym (answer_again p.counts a i.answer) ∙ ap answer_in answers ∙ answer_again q.counts b j.answer) in
      let counts : p.counts ≡ q.counts = ap (λ x. x.0) second in
      (ap₂ counted_part snapshot counts, ap (λ x. x.1) second)

  -- parts at the front of a text are the first ones of the parts that it is
  pub first_parts : (ps qs : List CountedPart) (s t u : StateValue) (next : List ℕ) → PartsJoin v s ps t → PartsJoin v s qs u → parts_text ps ++ next ≡ parts_text qs
      → (more : List CountedPart) × (qs ≡ ps ++ more) × (next ≡ parts_text more) × PartsJoin v t more u
  first_parts [] qs s t u next i j e = (qs, refl, e, subst (λ (x : StateValue). PartsJoin v x qs u) i j)
  first_parts (p ∷ ps) [] s t u next i j e = absurd (part_some p (parts_text ps ++ next) (sym (append_assoc (part_text p) (parts_text ps) next) ∙ e))
  first_parts (p ∷ ps) (q ∷ qs) s t u next i j e =
      let same = same_part p q (parts_text ps ++ next) (parts_text qs) i.0 j.0 (sym (append_assoc (part_text p) (parts_text ps) next) ∙ e) in
      let here : last_state q.snapshot ≡ last_state p.snapshot = ap (λ (x : CountedPart). last_state x.snapshot) (sym same.0) in
      let ih = first_parts ps qs (last_state p.snapshot) t u next i.2 (subst (λ (x : StateValue). PartsJoin v x qs u) here j.2) same.1 in
      (ih.0, ap₂ (λ (x : CountedPart) (xs : List CountedPart). x ∷ xs) (sym same.0) ih.1, ih.2, ih.3)

-- the whole is the only one
pub same_whole : (text : List ℕ) (v w : SnapshotValue) (rest : List ℕ) (qs : List CountedPart) → whole_in text ≡ Ok (v, rest) → IsJoined text w qs → (v ≡ w) × (rest ≡ parts_text qs)
same_whole text v w rest qs h i =
    let both = ok_is _ _ (sym h ∙ ap whole_in i.text_is ∙ whole_again w (parts_text qs) i.whole) in
    (ap (λ x. x.0) both, ap (λ x. x.1) both)

pub other_parts : (text : List ℕ) (v : SnapshotValue) (rest : List ℕ) (ps : List CountedPart) (t : StateValue) (next : List ℕ) → IsSnapshot v → whole_in text ≡ Ok (v, rest) → PartsJoin v v.state ps t → rest ≡ parts_text ps ++ next → (w : SnapshotValue) (qs : List CountedPart) → IsJoined text w qs
    → (v ≡ w) × ((more : List CountedPart) × (qs ≡ ps ++ more) × (next ≡ parts_text more) × PartsJoin v t more (last_state v))
other_parts text v rest ps t next g h i e w qs j =
    let same = same_whole text v w rest qs h j in
    let join : PartsJoin v v.state qs (last_state v) = subst (λ (x : SnapshotValue). PartsJoin x x.state qs (last_state x)) (sym same.0) j.join in
    (same.0, first_parts v g ps qs v.state t (last_state v) next i join (sym e ∙ same.1))

pub no_parts : (v : SnapshotValue) → IsSnapshot v → (more : List CountedPart) → [] ≡ parts_text more → more ≡ []
no_parts v g [] e = refl
no_parts v g (q ∷ qs) e = absurd (part_some v g q (parts_text qs) (sym e))

-- what is the sum of one text's parts is the sum of its parts, whichever are named
pub one_sum : (text : List ℕ) (v w : SnapshotValue) (ps qs : List CountedPart) (counted : Counted) → IsJoined text v ps → IsJoined text w qs → sum_text counted v ps ≡ sum_text counted w qs
one_sum text v w ps qs counted i j =
    let h : whole_in text ≡ Ok (v, parts_text ps) = ap whole_in i.text_is ∙ whole_again v (parts_text ps) i.whole in
    let o = other_parts text v (parts_text ps) ps (last_state v) [] i.whole h i.join (sym (append-nil (parts_text ps))) w qs j in
    let none = no_parts v i.whole o.1.0 o.1.2 in
    let same : ps ≡ qs = sym (append-nil ps) ∙ ap (λ xs. ps ++ xs) (sym none) ∙ sym o.1.1 in
    ap₂ (sum_text counted) o.0 same

-- all parts were taken
pub all_taken : (text rest head : List ℕ) (v : SnapshotValue) (old new : JoiningValue) (n : ℕ) → whole_in text ≡ Ok (v, rest) → head ≡ head_text v → old ≡ joining_with v.state v.state no_counts → AreTaken head n old rest new [] → new.here ≡ last_state v
    → (parts : List CountedPart) × IsJoined text v parts × (new.counts ≡ parts_sum parts)
all_taken text rest head v old new n h e o t end =
    let a = whole_back text (v, rest) h in
    let t' = subst (λ (x : JoiningValue). AreTaken (head_text v) n x rest new []) o (subst (λ x. AreTaken x n old rest new []) e t) in
    let i = up_to v a.1 n (joining_with v.state v.state no_counts) new rest [] a.1.on_run.fits t' in (
      i.parts,
      record {
        whole = a.1;
        join = subst (PartsJoin v v.state i.parts) end i.join;
        text_is = a.0 ∙ ap (λ x. snapshot_text v ++ x) (i.text_is ∙ append-nil (parts_text i.parts));
      },
      i.counts ∙ none_before (parts_sum i.parts),
    )
