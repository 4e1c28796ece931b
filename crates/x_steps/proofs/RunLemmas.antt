-- The run meets exactly the fitting states, none twice, and ends; and how far one state is from another.
use Rattle.std.proofs.Common.{◌≡◌, ℕ, zero, suc, ◌+◌, ◌-◌, ◌<◌, ◌≤◌, ◌⊎◌, true, false, Option, Some, List, refl, sym, ap, ◌∙◌, subst, inl, inr, arith, le_refl, suc-add, zero-add}
use Rattle.std.specs.Prelude as prelude
use Rattle.std.proofs.lemmas.Bool.{cases_Bool, cases_lt, cases_order, lt-ltb, le-ltb}
use Rattle.cover_problem.specs.Problem.{ProblemValue}
use Rattle.x_steps.specs.declared.state.Label.{Label}
use Rattle.x_steps.specs.declared.state.Label.TheVariants.{X1, X2, X3, X4, X5, X6, X7, X8, Done}
use Rattle.x_steps.specs.declared.state.Cursor.{Cursor}
use Rattle.x_steps.specs.declared.state.Cursor.TheVariants as cursor
use Rattle.x_steps.specs.declared.state.Cursor.TheVariants.{At, Past}
use Rattle.x_steps.specs.StateValue.{StateValue, at, start, done}
use Rattle.x_steps.specs.Steps.{is_open, split_last, FitsAt, Fits, next, IsBefore}
use Rattle.x_steps.specs.Before.{entered_from, came_from, prev}
use Rattle.x_steps.specs.Run.{after, distance, steps_between, IsRun, ReachesIn}
use Rattle.x_steps.specs.Rank.{rank}
use Rattle.x_steps.proofs.Neighbours.{fits_next, fits_prev, prev_next, next_prev}
use Rattle.x_steps.proofs.RankLemmas.{rank_next}

-- ---- labels

pub is_first : (l : Label) → (l ≡ X1) ⊎ (l ≡ X1 → ⊥)
is_first X1 = inl refl
is_first _ = inr (λ e. cc)

pub start_fits : (p : ProblemValue) → Fits p start
start_fits p = refl

pub done_fits : (p : ProblemValue) → Fits p done
done_fits p = refl

-- the first and the last state that fit are those of the run
first_at : (p : ProblemValue) (path : List ℕ) (k : Cursor) → FitsAt p X1 path k → at X1 path k ≡ start
first_at p path cursor.None f = ap (λ q. at X1 q cursor.None) f
first_at p path _ f = absurd f

pub first_is : (p : ProblemValue) (s : StateValue) → Fits p s → s.label ≡ X1 → s ≡ start
first_is p s f e = ap (λ l. at l s.path s.cursor) e ∙ first_at p s.path s.cursor (subst (λ l. FitsAt p l s.path s.cursor) e f)

end_at : (p : ProblemValue) (path : List ℕ) (k : Cursor) → FitsAt p Done path k → at Done path k ≡ done
end_at p path cursor.None f = ap (λ q. at Done q cursor.None) f
end_at p path _ f = absurd f

pub end_is : (p : ProblemValue) (s : StateValue) → Fits p s → s.label ≡ Done → s ≡ done
end_is p s f e = ap (λ l. at l s.path s.cursor) e ∙ end_at p s.path s.cursor (subst (λ l. FitsAt p l s.path s.cursor) e f)

-- nothing follows Done
entered_goes_on : (s : Option (List ℕ × ℕ)) → (entered_from s).label ≡ Done → ⊥
entered_goes_on prelude.None e = cc
entered_goes_on (Some s) e = cc

came_goes_on : (path : List ℕ) (s : Option ℕ) → (came_from path s).label ≡ Done → ⊥
came_goes_on path prelude.None e = cc
came_goes_on path (Some s) e = cc

pub prev_goes_on_at : (p : ProblemValue) (l : Label) (path : List ℕ) (k : Cursor) → FitsAt p l path k → (prev p (at l path k)).label ≡ Done → ⊥
unfolding prev
prev_goes_on_at p X1 path cursor.None f e = cc
prev_goes_on_at p X2 path cursor.None f e = entered_goes_on (split_last path) e
prev_goes_on_at p X3 path cursor.None f e = cc
prev_goes_on_at p X4 path cursor.None f e = cc
prev_goes_on_at p X5 path (At o) f e = came_goes_on path _ e
prev_goes_on_at p X5 path Past f e = came_goes_on path _ e
prev_goes_on_at p X6 path (At o) f e = cc
prev_goes_on_at p X7 path cursor.None f e = cc
prev_goes_on_at p X8 path cursor.None f e = step (cases_Bool (is_open p path))
  where
    step : (is_open p path ≡ true) ⊎ (is_open p path ≡ false) → ⊥
    step (inl h) = let g : X7 ≡ Done = rw h at e in cc
    step (inr h) = let g : X2 ≡ Done = rw h at e in cc
prev_goes_on_at p Done path cursor.None f e = cc
prev_goes_on_at p _ path _ f e = f

pub prev_goes_on : (p : ProblemValue) (s : StateValue) → Fits p s → (prev p s).label ≡ Done → ⊥
prev_goes_on p s f e = prev_goes_on_at p s.label s.path s.cursor f e

-- ---- predecessors

pub prev_before : (p : ProblemValue) (s : StateValue) → Fits p s → (s ≡ start → ⊥) → IsBefore p (prev p s) s
prev_before p s f g = record { fit = fits_prev p s f; goes_on = prev_goes_on p s f; steps = next_prev p s f (λ e. g (first_is p s f e)) }

pub one_predecessor : (p : ProblemValue) (s : StateValue) → Fits p s → (s ≡ start → ⊥) → (t : StateValue) × IsBefore p t s × ((u : StateValue) → IsBefore p u s → u ≡ t)
one_predecessor p s f g = (prev p s, prev_before p s f g, λ u b. sym (prev_next p u b.fit b.goes_on) ∙ ap (prev p) b.steps)

-- ---- steps

pub after_fits : (p : ProblemValue) (n : ℕ) (s : StateValue) → Fits p s → Fits p (after p n s)
after_fits p zero s f = f
after_fits p (suc n) s f = fits_next p (after p n s) (after_fits p n s f)

pub after_shift : (p : ProblemValue) (n : ℕ) (s : StateValue) → after p n (next p s) ≡ after p (suc n) s
after_shift p zero s = refl
after_shift p (suc n) s = ap (next p) (after_shift p n s)

pub after_add : (p : ProblemValue) (m n : ℕ) (s : StateValue) → after p m (after p n s) ≡ after p (m + n) s
after_add p zero n s = rw zero-add refl
after_add p (suc m) n s = rw suc-add (ap (next p) (after_add p m n s))

-- from s on ranks rise until Done
pub rises_between : (p : ProblemValue) (n : ℕ) (s : StateValue) → Fits p s → ((i : ℕ) → i < n → (after p i s).label ≡ Done → ⊥) → (i j : ℕ) → i < j → j ≤ n → rank p (after p i s) < rank p (after p j s)
rises_between p n s f g i zero l m = absurd (omega arith)
rises_between p n s f g i (suc j) l m = step (cases_lt i j) (rises_between p n s f g i j)
  where
    up : rank p (after p j s) < rank p (next p (after p j s))
    up = rank_next p (after p j s) (after_fits p j s f) (g j (omega arith))

    step : (i < j) ⊎ (j ≤ i) → (i < j → j ≤ n → rank p (after p i s) < rank p (after p j s)) → rank p (after p i s) < rank p (after p (suc j) s)
    step (inl a) ih = let b = ih a (omega arith) in let c = up in omega arith
    step (inr a) ih = let e : i ≡ j = omega arith in rw e up

pub leads_none : (p : ProblemValue) (s : StateValue) → ReachesIn p s s 0
leads_none p s = record { ends = refl; goes_on = λ i l. absurd (omega arith) }

pub leads_push : (p : ProblemValue) (s t : StateValue) (n : ℕ) → ReachesIn p s t n → (t.label ≡ Done → ⊥) → ReachesIn p s (next p t) (suc n)
leads_push p s t n a g = record { ends = ap (next p) a.ends; goes_on = λ i l. step i (cases_lt i n) l }
  where
    step : (i : ℕ) → (i < n) ⊎ (n ≤ i) → i < suc n → (after p i s).label ≡ Done → ⊥
    step i (inl b) l = a.goes_on i b
    step i (inr b) l = let e : i ≡ n = omega arith in rw (e, a.ends) g

pub leads_join : (p : ProblemValue) (s t u : StateValue) (m n : ℕ) → ReachesIn p s t m → ReachesIn p t u n → ReachesIn p s u (n + m)
leads_join p s t u m n a b = record { ends = sym (after_add p n m s) ∙ ap (after p n) a.ends ∙ b.ends; goes_on = λ i l. step i (cases_lt i m) l }
  where
    past : (i : ℕ) → m ≤ i → i < n + m → (after p i s).label ≡ Done → ⊥
    past i c l = let d : (i - m) + m ≡ i = omega arith in
        let e : after p (i - m) t ≡ after p i s = ap (after p (i - m)) (sym a.ends) ∙ after_add p (i - m) m s ∙ ap (λ k. after p k s) d in
        rw (← e) (b.goes_on (i - m) (omega arith))

    step : (i : ℕ) → (i < m) ⊎ (m ≤ i) → i < n + m → (after p i s).label ≡ Done → ⊥
    step i (inl c) l = a.goes_on i c
    step i (inr c) l = past i c l

one_more : (p : ProblemValue) (s : StateValue) → Fits p s → next p (prev p s) ≡ s → ((n : ℕ) × ReachesIn p start (prev p s) n) → (n : ℕ) × ReachesIn p start s n
one_more p s f e r = subst (λ (u : StateValue). (n : ℕ) × ReachesIn p start u n) e (suc r.0, leads_push p start (prev p s) r.0 r.1 (prev_goes_on p s f))

-- a fitting state stands on the run: backwards from it X1 is reached
reach : (p : ProblemValue) (fuel : ℕ) (s : StateValue) → rank p s < fuel → Fits p s → (n : ℕ) × ReachesIn p start s n
reach p zero s l f = absurd (omega arith)
reach p (suc fuel) s l f = step (reach p fuel (prev p s)) (is_first s.label)
  where
    step : (rank p (prev p s) < fuel → Fits p (prev p s) → (n : ℕ) × ReachesIn p start (prev p s) n) → (s.label ≡ X1) ⊎ (s.label ≡ X1 → ⊥) → (n : ℕ) × ReachesIn p start s n
    step ih (inl e) = (0, rw (first_is p s f e) (leads_none p start))
    step ih (inr g) =
        let e = next_prev p s f g in
        let b = rank_next p (prev p s) (fits_prev p s f) (prev_goes_on p s f) in
        let h = ap (rank p) e in
        one_more p s f e (ih (omega arith) (fits_prev p s f))

pub stands : (p : ProblemValue) (s : StateValue) → Fits p s → (n : ℕ) × ReachesIn p start s n
stands p s f = reach p (suc (rank p s)) s (le_refl (suc (rank p s))) f

-- ---- how far one state is from another

distance_is : (p : ProblemValue) (most n : ℕ) (s t : StateValue) → Fits p s → ReachesIn p s t n → rank p t ≤ rank p s + most → distance p most s t ≡ n
distance_is p zero zero s t f a l = refl
distance_is p zero (suc n) s t f a l =
    let r = rises_between p (suc n) s f a.goes_on 0 (suc n) (omega arith) (le_refl (suc n)) in
    let h = ap (rank p) a.ends in absurd (omega arith)
distance_is p (suc most) zero s t f a l = let h = ap (rank p) a.ends in let e = le-ltb (rank p s) (rank p t) (omega arith) in rw e refl
distance_is p (suc most) (suc n) s t f a l =
    let r = rises_between p (suc n) s f a.goes_on 0 (suc n) (omega arith) (le_refl (suc n)) in
    let h = ap (rank p) a.ends in
    let e = lt-ltb (rank p s) (rank p t) (omega arith) in
    let u = rank_next p s f (a.goes_on 0 (omega arith)) in
    rw e (ap suc (distance_is p most n (next p s) t (fits_next p s f) (record { ends = after_shift p n s ∙ a.ends; goes_on = λ i m. rw (after_shift p i s) (a.goes_on (suc i) (omega arith)) }) (omega arith)))

pub steps_between_is : (p : ProblemValue) (s t : StateValue) (n : ℕ) → Fits p s → ReachesIn p s t n → steps_between p s t ≡ n
unfolding steps_between
steps_between_is p s t n f a = distance_is p (rank p t) n s t f a (omega arith)

-- of two fitting states the one of the higher rank is reached from the other
pub leads_to : (p : ProblemValue) (s t : StateValue) → Fits p s → Fits p t → rank p s ≤ rank p t → ReachesIn p s t (steps_between p s t)
leads_to p s t f g l = step (stands p s f) (stands p t g)
  where
    step : ((m : ℕ) × ReachesIn p start s m) → ((n : ℕ) × ReachesIn p start t n) → ReachesIn p s t (steps_between p s t)
    step a b = order (cases_lt b.0 a.0)
      where
        order : (b.0 < a.0) ⊎ (a.0 ≤ b.0) → ReachesIn p s t (steps_between p s t)
        order (inl c) =
            let r = rises_between p a.0 start (start_fits p) a.1.goes_on b.0 a.0 c (le_refl a.0) in
            let x = ap (rank p) a.1.ends in let y = ap (rank p) b.1.ends in absurd (omega arith)
        order (inr c) =
            let d : (b.0 - a.0) + a.0 ≡ b.0 = omega arith in
            let e : after p (b.0 - a.0) s ≡ t = ap (after p (b.0 - a.0)) (sym a.1.ends) ∙ after_add p (b.0 - a.0) a.0 start ∙ ap (λ k. after p k start) d ∙ b.1.ends in
            let w : ReachesIn p s t (b.0 - a.0) = record { ends = e; goes_on = λ i m. rw (sym (ap (after p i) (sym a.1.ends) ∙ after_add p i a.0 start)) at (b.1.goes_on (i + a.0) (omega arith)) } in
            rw (steps_between_is p s t (b.0 - a.0) f w) w

pub rank_once : (p : ProblemValue) (s t : StateValue) → Fits p s → Fits p t → rank p s ≡ rank p t → s ≡ t
rank_once p s t f g e = step (leads_to p s t f g (omega arith)) (cases_order (steps_between p s t) 0)
  where
    step : ReachesIn p s t (steps_between p s t) → (steps_between p s t ≡ 0) ⊎ ((steps_between p s t < 0) ⊎ (0 < steps_between p s t)) → s ≡ t
    step a (inl z) = ap (λ n. after p n s) (sym z) ∙ a.ends
    step a (inr (inl z)) = absurd (omega arith)
    step a (inr (inr z)) = let r = rises_between p (steps_between p s t) s f a.goes_on 0 (steps_between p s t) z (le_refl (steps_between p s t)) in let h = ap (rank p) a.ends in absurd (omega arith)

-- Done comes last
pub done_last : (p : ProblemValue) (s : StateValue) → Fits p s → rank p s ≤ rank p done
done_last p s f = step (cases_lt (rank p done) (rank p s))
  where
    step : (rank p done < rank p s) ⊎ (rank p s ≤ rank p done) → rank p s ≤ rank p done
    step (inr l) = l
    step (inl l) = let a = leads_to p done s (done_fits p) f (omega arith) in over a (cases_order (steps_between p done s) 0)
      where
        over : ReachesIn p done s (steps_between p done s) → (steps_between p done s ≡ 0) ⊎ ((steps_between p done s < 0) ⊎ (0 < steps_between p done s)) → rank p s ≤ rank p done
        over a (inl z) = let e = ap (λ n. after p n done) (sym z) ∙ a.ends in let h = ap (rank p) e in omega arith
        over a (inr (inl z)) = absurd (omega arith)
        over a (inr (inr z)) = absurd (a.goes_on 0 z refl)

pub start_first : (p : ProblemValue) (s : StateValue) → Fits p s → rank p start ≤ rank p s
start_first p s f = step (stands p s f)
  where
    step : ((n : ℕ) × ReachesIn p start s n) → rank p start ≤ rank p s
    step a = order (cases_order a.0 0)
      where
        order : (a.0 ≡ 0) ⊎ ((a.0 < 0) ⊎ (0 < a.0)) → rank p start ≤ rank p s
        order (inl z) = let e = ap (λ n. after p n start) (sym z) ∙ a.1.ends in let h = ap (rank p) e in omega arith
        order (inr (inl z)) = absurd (omega arith)
        order (inr (inr z)) = let r = rises_between p a.0 start (start_fits p) a.1.goes_on 0 a.0 z (le_refl a.0) in let h = ap (rank p) a.1.ends in omega arith

-- nothing comes before X1
pub none_before : (p : ProblemValue) (u : StateValue) → IsBefore p u start → ⊥
none_before p u b = let r = rank_next p u b.fit b.goes_on in let l = start_first p u b.fit in let e = ap (rank p) b.steps in omega arith

-- ---- the run

pub run_leads : (p : ProblemValue) → ReachesIn p start done (steps_between p start done)
run_leads p = leads_to p start done (start_fits p) (done_fits p) (start_first p done (done_fits p))

pub run_is_fitting : (p : ProblemValue) → IsRun p (steps_between p start done)
run_is_fitting p = record { ends = (run_leads p).ends; once = λ i j a b e. once i j a b e (cases_order i j); fits = λ i. after_fits p i start (start_fits p); meets = λ s f. meets s (stands p s f) f }
  where
    apart : (i j : ℕ) → i < j → j ≤ steps_between p start done → after p i start ≡ after p j start → ⊥
    apart i j l m e = let r = rises_between p (steps_between p start done) start (start_fits p) (run_leads p).goes_on i j l m in let h = ap (rank p) e in omega arith

    once : (i j : ℕ) → i ≤ steps_between p start done → j ≤ steps_between p start done → after p i start ≡ after p j start → (i ≡ j) ⊎ ((i < j) ⊎ (j < i)) → i ≡ j
    once i j a b e (inl h) = h
    once i j a b e (inr (inl l)) = absurd (apart i j l b e)
    once i j a b e (inr (inr l)) = absurd (apart j i l a (sym e))

    meets : (s : StateValue) → ((n : ℕ) × ReachesIn p start s n) → Fits p s → (i : ℕ) × (i ≤ steps_between p start done) × (after p i start ≡ s)
    meets s a f = (a.0, within (cases_lt (steps_between p start done) a.0), a.1.ends)
      where
        within : (steps_between p start done < a.0) ⊎ (a.0 ≤ steps_between p start done) → a.0 ≤ steps_between p start done
        within (inr l) = l
        within (inl l) = absurd (a.1.goes_on (steps_between p start done) l (ap (λ (s : StateValue). s.label) (run_leads p).ends))
