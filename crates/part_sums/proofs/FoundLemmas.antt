-- What calls answer is what is found.
use Rattle.std.proofs.Common.{◌≡◌, ◌⊎◌, inl, inr, ℕ, zero, suc, ◌+◌, ◌-◌, ◌<◌, ◌≤◌, Bool, true, false, not, cond, List, [], ◌∷◌, length, filter, Result, Ok, Err, refl, sym, ◌∙◌, ap, subst, arith}
use Rattle.std.proofs.lemmas.Bool.{cases_lt, false_from_ne_true, and_parts, not-true}
use Rattle.std.proofs.Common.{true≢false}
use Rattle.text_lines.specs.Lines.{is_newline}
use Rattle.text_lines.proofs.ResultLemmas.{ok_is, no_fault, bind_ok, granted}
use Rattle.text_lines.specs.Writing.{text_of}
use Rattle.text_lines.specs.Each.{◌>>=◌}
use Rattle.text_lines.specs.Answers.{in_line, IsFaultOf, IsFaultAt}
use Rattle.text_lines.specs.declared.refusal.Refusal.{Refusal}
use Rattle.text_lines.specs.declared.refusal.Refusal.TheVariants as refusals
use Rattle.text_lines.specs.declared.refusal.TextRefusal.{TextRefusal}
use Rattle.text_lines.specs.declared.refusal.TextRefusal.TheVariants as texts
use Rattle.cover_problem.specs.Problem.{ProblemValue}
use Rattle.x_steps.specs.StateValue.{StateValue}
use Rattle.x_steps.specs.Steps.{Fits}
use Rattle.x_steps.specs.Rank.{rank}
use Rattle.x_branches.specs.RunOrder.{comes_before}
use Rattle.x_branches.proofs.CutLemmas.{test_rank, rank_test, test_is_order}
use Rattle.x_branches.proofs.RunnerLemmas.{other_before}
use Rattle.x_steps.proofs.RunLemmas.{rank_once}
use Rattle.x_snapshot.specs.Snapshot.{SnapshotValue, IsSnapshot}
use Rattle.part_sums.specs.declared.fault.JoinFault.{JoinFault}
use Rattle.part_sums.specs.declared.fault.JoinFault.TheVariants.{Gap, Overlap, Twice, LeftOut}
use Rattle.part_sums.specs.declared.total.Counted.{Counted}
use Rattle.part_sums.specs.Answers.{no_counts, both_counts, sum_lines}
use Rattle.part_sums.specs.Parts.{CountedPart, IsJoined, head_text, last_state, sum_text}
use Rattle.part_sums.specs.Reading.{whole_in, tail_in, part_answer_in, line_of}
use Rattle.part_sums.specs.Refusals.{IsMisplaced}
use Rattle.part_sums.specs.Taking.{JoiningValue, joining_with, IsPartTaken, IsTakenRefused, AreTaken, AllTaken, IsOneRefused, IsEndRefused}
use Rattle.part_sums.specs.Joining.{on_line, are_at_one_place, beginning_found, part_found, parts_within, parts_found, end_found, join_of}
use Rattle.part_sums.proofs.TailLemmas.{whole_back, tail_back}
use Rattle.part_sums.proofs.TakingLemmas.{next_shorter}
use Rattle.part_sums.proofs.JoinLemmas.{end_fits, state_fits, all_taken}

-- *the order of two states*

not_itself : (p : ProblemValue) (s t : StateValue) → s ≡ t → comes_before p s t ≡ false
not_itself p s t e = false_from_ne_true (comes_before p s t) (λ h. let l = test_rank p s t h in let r = ap (rank p) e in omega (arith, l, r))

not_back : (p : ProblemValue) (s t : StateValue) → comes_before p s t ≡ true → comes_before p t s ≡ false
not_back p s t h = false_from_ne_true (comes_before p t s) (λ k. let l = test_rank p s t h in let m = test_rank p t s k in omega (arith, l, m))

at_same : (p : ProblemValue) (s t : StateValue) → s ≡ t → are_at_one_place p s t ≡ true
at_same p s t e = rw (not_itself p s t e, not_itself p t s (sym e)) refl

at_other : (p : ProblemValue) (s t : StateValue) → Fits p s → Fits p t → (s ≡ t → ⊥) → are_at_one_place p s t ≡ false
at_other p s t f g n = step (cases_lt (rank p s) (rank p t))
  where
    step : (rank p s < rank p t) ⊎ (rank p t ≤ rank p s) → are_at_one_place p s t ≡ false
    step (inl l) = rw (rank_test p s t f g l) refl
    step (inr l) =
        let below = other_before p t s g f l (λ e. n (sym e)) in
        let back = rank_test p t s g f below in
        rw (not_back p t s back, back) refl

-- *one part*

place_is : (p : ProblemValue) (before here next : StateValue) → next ≡ here → beginning_found p before here next ≡ Ok tt
unfolding beginning_found
place_is p before here next e = rw (not_itself p here next (sym e), not_itself p next here e) refl

place_other : (p : ProblemValue) (before here next : StateValue) (f : JoinFault) → Fits p before → Fits p here → Fits p next → IsMisplaced p before here next f → beginning_found p before here next ≡ Err f
unfolding beginning_found
place_other p before here next Gap a b c m = let later = (test_is_order p here next b c).1 m in rw later refl
place_other p before here next Overlap a b c m =
    let earlier = (test_is_order p next here c b).1 m.0 in
    rw (not_back p next here earlier, earlier, at_other p before next a c (λ e. m.1 (sym e))) refl
place_other p before here next Twice a b c m =
    let earlier = (test_is_order p next here c b).1 m.0 in
    rw (not_back p next here earlier, earlier, at_same p before next (sym m.1)) refl
place_other p before here next _ a b c m = absurd m

-- the search of v has where the last part begins and ends
record Fit (v : SnapshotValue) (j : JoiningValue) : Type 0 where
  here : Fits v.problem j.here
  before : Fits v.problem j.before

module _ (v : SnapshotValue) (g : IsSnapshot v) (text : List ℕ) where
  taken_fit : (old new : JoiningValue) (rest next : List ℕ) → IsPartTaken (head_text v) old rest new next → Fit v new
  taken_fit old new rest next i =
      let t = tail_back v g rest (i.part, i.answer) i.is_next.tail in
      subst (Fit v) (sym i.new_is) (record { here = end_fits v.problem i.part t.snapshot t.problem; before = state_fits v.problem i.part t.snapshot t.problem })

  part_taken : (old new : JoiningValue) (rest next : List ℕ) → Fit v old → IsPartTaken (head_text v) old rest new next → part_found v text old rest ≡ Ok (new, next)
  unfolding part_found
  part_taken old new rest next f i =
      let t = tail_back v g rest (i.part, i.answer) i.is_next.tail in
      let place = i.is_next.place v.problem f.here (state_fits v.problem i.part t.snapshot t.problem) in
      rw (i.is_next.tail, place_is v.problem old.before old.here i.part.state place, i.read, i.new_is) refl

  part_refused : (old : JoiningValue) (rest : List ℕ) (f : JoinFault) (line : ℕ) → Fit v old → IsTakenRefused (head_text v) old text rest (texts.Fault f line) → part_found v text old rest ≡ Err (f, line)
  unfolding part_found
  part_refused old rest f line k (inl ((inl bad), l)) = rw (bad, l) refl
  part_refused old rest f line k (inl ((inr (part, answer, other)), l)) =
      let t = tail_back v g rest (part, answer) other.tail in
      let fits = state_fits v.problem part t.snapshot t.problem in
      rw (other.tail, place_other v.problem old.before old.here part.state f k.before k.here fits (other.misplaced v.problem k.here fits), l) refl
  part_refused old rest f line k (inr none) =
      let t = tail_back v g rest (none.part, none.answer) none.is_next.tail in
      let place = none.is_next.place v.problem k.here (state_fits v.problem none.part t.snapshot t.problem) in
      rw (none.is_next.tail, place_is v.problem old.before old.here none.part.state place, none.read, none.line_is) refl

  -- *all parts*

  -- each part takes a byte at least
  fuel : (n : ℕ) (old new : JoiningValue) (rest next : List ℕ) → AreTaken (head_text v) n old rest new next → n + length next ≤ length rest
  fuel zero old new rest next t = let l = ap length t.1 in omega (arith, l)
  fuel (suc n) old new rest next t =
      let i = t.2 in
      let one = next_shorter (head_text v) old rest i.part i.answer i.counts t.1 i.is_next i.read in
      let ih = fuel n t.0 new t.1 next t.3 in
      omega (arith, one, ih)

  some_found : (n : ℕ) (j : JoiningValue) (rest : List ℕ) → 0 < length rest → parts_within v text (suc n) j rest ≡ (part_found v text j rest >>= λ s. parts_within v text n s.0 s.1)
  unfolding parts_within
  some_found n j [] l = absurd (omega (arith, l))
  some_found n j (b ∷ bs) l = refl

  parts_taken : (n k m : ℕ) (old new : JoiningValue) (rest next : List ℕ) → k ≡ n + m → Fit v old → AreTaken (head_text v) n old rest new next → (parts_within v text k old rest ≡ parts_within v text m new next) × Fit v new
  parts_taken zero k m old new rest next e f t =
      let same : k ≡ m = omega (arith, e) in
      (rw (same, t.0, t.1) refl, subst (Fit v) t.0 f)
  parts_taken (suc n) k m old new rest next e f t =
      let i = t.2 in
      let more : k ≡ suc (n + m) = omega (arith, e) in
      let some : 0 < length rest = (let one = next_shorter (head_text v) old rest i.part i.answer i.counts t.1 i.is_next i.read in omega (arith, one)) in
      let ih = parts_taken n (n + m) m t.0 new t.1 next refl (taken_fit old t.0 rest t.1 i) t.3 in
      let first : parts_within v text k old rest ≡ parts_within v text (n + m) t.0 t.1 =
      ap (λ x. parts_within v text x old rest) more ∙ some_found (n + m) old rest some ∙ ap (λ r. r >>= λ s. parts_within v text (n + m) s.0 s.1) (part_taken old t.0 rest t.1 f i) in
      (first ∙ ih.0, ih.1)

  none_left : (m : ℕ) (j : JoiningValue) → parts_within v text m j [] ≡ Ok j
  unfolding parts_within
  none_left zero j = refl
  none_left (suc m) j = refl

  all_found : (n : ℕ) (old new : JoiningValue) (rest : List ℕ) → Fit v old → AreTaken (head_text v) n old rest new [] → (parts_within v text (length rest) old rest ≡ Ok new) × Fit v new
  all_found n old new rest f t =
      let l = fuel n old new rest [] t in
      let p = parts_taken n (length rest) (length rest - n) old new rest [] (omega (arith, l)) f t in
      (p.0 ∙ none_left (length rest - n) new, p.1)

  one_refused : (n : ℕ) (old mid : JoiningValue) (rest after : List ℕ) (f : JoinFault) (line : ℕ) → Fit v old → AreTaken (head_text v) n old rest mid after → 0 < length after → IsTakenRefused (head_text v) mid text after (texts.Fault f line)
      → parts_within v text (length rest) old rest ≡ Err (f, line)
  one_refused n old mid rest after f line k t some r =
      let l = fuel n old mid rest after t in
      let m : length rest ≡ n + suc (length rest - n - 1) = omega (arith, l, some) in
      let p = parts_taken n (length rest) (suc (length rest - n - 1)) old mid rest after m k t in
      p.0 ∙ some_found (length rest - n - 1) mid after some ∙ ap (λ x. x >>= λ s. parts_within v text (length rest - n - 1) s.0 s.1) (part_refused mid after f line p.1 r)

-- *the whole text*

module _ (text rest head : List ℕ) (v : SnapshotValue) (old : JoiningValue) (h : whole_in text ≡ Ok (v, rest)) (e : head ≡ head_text v) (o : old ≡ joining_with v.state v.state no_counts) (counted : Counted) where
  g : IsSnapshot v
  g = (whole_back text (v, rest) h).1

  first_fit : Fit v (joining_with v.state v.state no_counts)
  first_fit = record { here = g.on_run.fits; before = g.on_run.fits }

  taken_from : (n : ℕ) (new : JoiningValue) (next : List ℕ) → AreTaken head n old rest new next → AreTaken (head_text v) n (joining_with v.state v.state no_counts) rest new next
  taken_from n new next t = subst (λ (x : JoiningValue). AreTaken (head_text v) n x rest new next) o (subst (λ x. AreTaken x n old rest new next) e t)

  pub sum_found : (new : JoiningValue) → AllTaken head old rest new → new.here ≡ last_state v → join_of counted text ≡ Ok (text_of (sum_lines counted v.problem new.counts))
  unfolding join_of end_found
  sum_found new (n, t) end =
      let all = all_found v g text n (joining_with v.state v.state no_counts) new rest first_fit (taken_from n new [] t) in
      rw (h, all.0, at_same v.problem new.here (last_state v) end) refl

  pub part_fault_found : (r : TextRefusal JoinFault) → IsOneRefused head old text rest r → IsFaultAt r (join_of counted text)
  unfolding join_of
  part_fault_found (texts.Fault f line) (n, mid, after, t, some, r) =
      let one = one_refused v g text n (joining_with v.state v.state no_counts) mid rest after f line first_fit (taken_from n mid after t) some (subst (λ x. IsTakenRefused x mid text after (texts.Fault f line)) e r) in
      rw (h, one) refl
  part_fault_found texts.OutOfMemory r = tt

  pub end_fault_found : (new : JoiningValue) (r : TextRefusal JoinFault) → AllTaken head old rest new → IsEndRefused new v text r → IsFaultAt r (join_of counted text)
  unfolding join_of end_found
  end_fault_found new (texts.Fault f line) (n, t) r =
      let all = all_found v g text n (joining_with v.state v.state no_counts) new rest first_fit (taken_from n new [] t) in
      let other = at_other v.problem new.here (last_state v) all.1.here (end_fits v.problem v g refl) r.0 in
      rw (h, all.0, other, r.1, r.2) refl
  end_fault_found new texts.OutOfMemory t r = tt

-- a text that begins with no whole
pub begin_fault_found : (text : List ℕ) (counted : Counted) (r : Refusal JoinFault) → IsFaultOf r (whole_in text) → IsFaultAt (in_line 1 r) (join_of counted text)
unfolding join_of
begin_fault_found text counted (refusals.Fault f) h = rw h refl
begin_fault_found text counted refusals.OutOfMemory h = tt

-- *what is found is so*

on_line_back : {X : Type 0} (line : ℕ) (r : Result X JoinFault) (x : X) → on_line line r ≡ Ok x → r ≡ Ok x
on_line_back {X} line (Ok y) x h = ap found (ok_is y x h)
  where
    found : X → Result X JoinFault
    found z = Ok z
on_line_back line (Err f) x h = absurd (no_fault (f, line) x h)

-- neither comes before the other: they are one
neither_before : (p : ProblemValue) (s t : StateValue) → Fits p s → Fits p t → comes_before p s t ≡ false → comes_before p t s ≡ false → s ≡ t
neither_before p s t f g a b = step (cases_lt (rank p s) (rank p t)) (cases_lt (rank p t) (rank p s))
  where
    step : (rank p s < rank p t) ⊎ (rank p t ≤ rank p s) → (rank p t < rank p s) ⊎ (rank p s ≤ rank p t) → s ≡ t
    step (inl l) m = absurd (true≢false (sym (rank_test p s t f g l) ∙ a))
    step (inr l) (inl m) = absurd (true≢false (sym (rank_test p t s g f m) ∙ b))
    step (inr l) (inr m) = rank_once p s t f g (omega (arith, l, m))

place_back : (p : ProblemValue) (before here next : StateValue) (u : Unit {0}) → Fits p here → Fits p next → beginning_found p before here next ≡ Ok u → next ≡ here
unfolding beginning_found
place_back p before here next u f g h = step (comes_before p here next) refl (comes_before p next here) refl h
  where
    step : (v : Bool) → comes_before p here next ≡ v → (w : Bool) → comes_before p next here ≡ w → cond v (Err Gap) (cond w (Err (cond (are_at_one_place p before next) Twice Overlap)) (Ok tt)) ≡ Ok u → next ≡ here
    step true a w b h = absurd (no_fault Gap u h)
    step false a true b h = absurd (no_fault (cond (are_at_one_place p before next) Twice Overlap) u h)
    step false a false b h = sym (neither_before p here next f g a b)

end_back : (v : SnapshotValue) (text : List ℕ) (j : JoiningValue) (u : Unit {0}) → Fits v.problem j.here → Fits v.problem (last_state v) → end_found v text j ≡ Ok u → j.here ≡ last_state v
unfolding end_found
end_back v text j u f g h =
    let a = granted (are_at_one_place v.problem j.here (last_state v)) (LeftOut, length (filter is_newline text)) (Ok tt) u h in
    let b = and_parts (not (comes_before v.problem j.here (last_state v))) (not (comes_before v.problem (last_state v) j.here)) a.0 in
    neither_before v.problem j.here (last_state v) f g (not-true (comes_before v.problem j.here (last_state v)) b.0) (not-true (comes_before v.problem (last_state v) j.here) b.1)

module _ (v : SnapshotValue) (g : IsSnapshot v) (text : List ℕ) where
  part_back : (old : JoiningValue) (rest : List ℕ) (r : JoiningValue × List ℕ) → Fit v old → part_found v text old rest ≡ Ok r → IsPartTaken (head_text v) old rest r.0 r.1
  unfolding part_found
  part_back old rest r f h =
      let a = bind_ok (on_line (line_of text rest) (tail_in (head_text v) rest)) (λ part. on_line (line_of text rest) (beginning_found v.problem old.before old.here part.0.state) >>= λ place. on_line (line_of text part.1) (part_answer_in part.0 part.1) >>= λ answer. Ok (joining_with part.0.state (last_state part.0) (both_counts old.counts answer.0), answer.1)) r h in
      let b = bind_ok (on_line (line_of text rest) (beginning_found v.problem old.before old.here a.0.0.state)) (λ place. on_line (line_of text a.0.1) (part_answer_in a.0.0 a.0.1) >>= λ answer. Ok (joining_with a.0.0.state (last_state a.0.0) (both_counts old.counts answer.0), answer.1)) r a.2 in
      let c = bind_ok (on_line (line_of text a.0.1) (part_answer_in a.0.0 a.0.1)) (λ answer. Ok (joining_with a.0.0.state (last_state a.0.0) (both_counts old.counts answer.0), answer.1)) r b.2 in
      let tail = on_line_back (line_of text rest) (tail_in (head_text v) rest) a.0 a.1 in
      let t = tail_back v g rest a.0 tail in
      let place = place_back v.problem old.before old.here a.0.0.state b.0 f.here (state_fits v.problem a.0.0 t.snapshot t.problem) (on_line_back (line_of text rest) (beginning_found v.problem old.before old.here a.0.0.state) b.0 b.1) in
      let made : IsPartTaken (head_text v) old rest (joining_with a.0.0.state (last_state a.0.0) (both_counts old.counts c.0.0)) c.0.1 = record {
        part = a.0.0;
        answer = a.0.1;
        counts = c.0.0;
        is_next = record { tail = tail; place = λ p k l. place };
        read = on_line_back (line_of text a.0.1) (part_answer_in a.0.0 a.0.1) c.0 c.1;
        new_is = refl;
      } in
      subst (λ (s : JoiningValue × List ℕ). IsPartTaken (head_text v) old rest s.0 s.1) (ok_is _ r c.2) made

  parts_back : (n : ℕ) (old new : JoiningValue) (rest : List ℕ) → length rest ≤ n → Fit v old → parts_within v text n old rest ≡ Ok new → AllTaken (head_text v) old rest new
  unfolding parts_within
  parts_back zero old new [] l f h = (0, (ok_is old new h, refl))
  parts_back zero old new (b ∷ bs) l f h = absurd (omega (arith, l))
  parts_back (suc n) old new [] l f h = (0, (ok_is old new h, refl))
  parts_back (suc n) old new (b ∷ bs) l f h =
      let a = bind_ok (part_found v text old (b ∷ bs)) (λ s. parts_within v text n s.0 s.1) new h in
      let i = part_back old (b ∷ bs) a.0 f a.1 in
      let s = next_shorter (head_text v) old (b ∷ bs) i.part i.answer i.counts a.0.1 i.is_next i.read in
      let ih = parts_back n a.0.0 new a.0.1 (omega (arith, l, s)) (taken_fit v g text old a.0.0 (b ∷ bs) a.0.1 i) a.2 in
      (suc ih.0, (a.0.0, a.0.1, i, ih.1))

-- the sum that is found is that of the whole and its parts of which the text is
pub found_joined : (counted : Counted) (text lines : List ℕ) → join_of counted text ≡ Ok lines → (v : SnapshotValue) × (parts : List CountedPart) × IsJoined text v parts × (lines ≡ sum_text counted v parts)
unfolding join_of
found_joined counted text lines h =
    let a = bind_ok (on_line 1 (whole_in text)) (λ whole. parts_found whole.0 text whole.1 >>= λ taken. end_found whole.0 text taken >>= λ ended. Ok (text_of (sum_lines counted whole.0.problem taken.counts))) lines h in
    let v = a.0.0 in
    let b = bind_ok (parts_found v text a.0.1) (λ taken. end_found v text taken >>= λ ended. Ok (text_of (sum_lines counted v.problem taken.counts))) lines a.2 in
    let c = bind_ok (end_found v text b.0) (λ ended. Ok (text_of (sum_lines counted v.problem b.0.counts))) lines b.2 in
    let read = on_line_back 1 (whole_in text) a.0 a.1 in
    let g = (whole_back text a.0 read).1 in
    let first : Fit v (joining_with v.state v.state no_counts) = record { here = g.on_run.fits; before = g.on_run.fits } in
    let t = parts_back v g text (length a.0.1) (joining_with v.state v.state no_counts) b.0 a.0.1 (omega arith) first b.1 in
    let fit = (all_found v g text t.0 (joining_with v.state v.state no_counts) b.0 a.0.1 first t.1).1 in
    let end = end_back v text b.0 c.0 fit.here (end_fits v.problem v g refl) c.1 in
    let all = all_taken text a.0.1 (head_text v) v (joining_with v.state v.state no_counts) b.0 t.0 read refl refl t.1 end in
    (v, all.0, all.1, sym (ok_is _ lines c.2) ∙ ap (λ s. text_of (sum_lines counted v.problem s)) all.2)
