-- The visits of the run rise in path order and are the exact covers, each once.
use Rattle.std.proofs.Common.{◌≡◌, ℕ, zero, suc, ◌<◌, ◌≤◌, ◌⊎◌, Bool, true, false, not, cond, List, [], ◌∷◌, ◌++◌, length, refl, sym, ap, ◌∙◌, inl, inr, arith, le_refl, append-nil}
use Rattle.std.proofs.lemmas.Bool.{cases_lt, not-true, ltb-false, le-ltb}
use Rattle.cover_problem.specs.Problem.{ProblemValue, IsProblem}
use Rattle.cover_problem.specs.Covering.{active}
use Rattle.cover_problem.specs.Path.{IsValid, covered_by}
use Rattle.cover_problem.proofs.CoverLemmas.{path_is_cover, cover_is_path, path_of_cover}
use Rattle.x_steps.specs.declared.state.Label.{Label}
use Rattle.x_steps.specs.declared.state.Label.TheVariants.{X2, Done}
use Rattle.x_steps.specs.declared.state.Cursor.{Cursor}
use Rattle.x_steps.specs.declared.state.Cursor.TheVariants as cursor
use Rattle.x_steps.specs.StateValue.{StateValue, at, start, done}
use Rattle.x_steps.specs.Steps.{is_open, FitsAt, Fits, is_visit}
use Rattle.x_steps.specs.Order.{IsIn, PathLess, AllAfter, PathsRise}
use Rattle.x_steps.specs.Covers.{AreCovers}
use Rattle.x_steps.specs.Run.{after, states, visits, steps_between, visits_between}
use Rattle.x_steps.specs.Rank.{rank}
use Rattle.x_steps.proofs.RunLemmas.{start_fits, after_fits, rises_between, run_leads, run_is_fitting}
use Rattle.x_steps.proofs.BetweenLemmas.{visit_of, visits_push}
use Rattle.x_steps.proofs.OrderLemmas.{rank_path}

-- what a visit is: X2 with a valid path and no active item
pub record IsVisitOf (p : ProblemValue) (s : StateValue) (q : List ℕ) : Type 0 where
  pub place : s ≡ at X2 q cursor.None
  pub valid : IsValid p q
  pub none : length (active p (covered_by p q)) ≡ 0

closed : (p : ProblemValue) (path : List ℕ) → not (is_open p path) ≡ true → length (active p (covered_by p path)) ≡ 0
closed p path h = let l = ltb-false 0 (length (active p (covered_by p path))) (not-true (is_open p path) h) in omega arith

visit_at : (p : ProblemValue) (l : Label) (path : List ℕ) (k : Cursor) → FitsAt p l path k → is_visit p (at l path k) ≡ true → IsVisitOf p (at l path k) path
visit_at p X2 path cursor.None f h = record { place = refl; valid = f; none = closed p path h }
visit_at p X2 path _ f h = absurd f
visit_at p _ path _ f h = absurd (cc)

pub visit_is : (p : ProblemValue) (s : StateValue) → Fits p s → is_visit p s ≡ true → IsVisitOf p s s.path
visit_is p s f h = visit_at p s.label s.path s.cursor f h

pub visit_from : (p : ProblemValue) (s : StateValue) (q : List ℕ) → IsVisitOf p s q → is_visit p s ≡ true
visit_from p s q v = rw v.place (rw (le-ltb 0 (length (active p (covered_by p q))) (omega (arith, v.none))) refl)

-- ---- lists of paths

in_append : (q : List ℕ) (xs ys : List (List ℕ)) → IsIn q (xs ++ ys) → IsIn q xs ⊎ IsIn q ys
in_append q [] ys i = inr i
in_append q (x ∷ xs) ys i = step (in_append q xs ys) i
  where
    step : (IsIn q (xs ++ ys) → IsIn q xs ⊎ IsIn q ys) → (q ≡ x) ⊎ IsIn q (xs ++ ys) → ((q ≡ x) ⊎ IsIn q xs) ⊎ IsIn q ys
    step ih (inl e) = inl (inl e)
    step ih (inr i) = over (ih i)
      where
        over : IsIn q xs ⊎ IsIn q ys → ((q ≡ x) ⊎ IsIn q xs) ⊎ IsIn q ys
        over (inl a) = inl (inr a)
        over (inr b) = inr b

in_left : (q : List ℕ) (xs ys : List (List ℕ)) → IsIn q xs → IsIn q (xs ++ ys)
in_left q [] ys i = absurd i
in_left q (x ∷ xs) ys i = step (in_left q xs ys) i
  where
    step : (IsIn q xs → IsIn q (xs ++ ys)) → (q ≡ x) ⊎ IsIn q xs → (q ≡ x) ⊎ IsIn q (xs ++ ys)
    step ih (inl e) = inl e
    step ih (inr i) = inr (ih i)

in_last : (q : List ℕ) (qs : List (List ℕ)) → IsIn q (qs ++ q ∷ [])
in_last q [] = inl refl
in_last q (x ∷ qs) = inr (in_last q qs)

all_after_push : (x q : List ℕ) (qs : List (List ℕ)) → AllAfter x qs → PathLess x q → AllAfter x (qs ++ q ∷ [])
all_after_push x q [] a l = (l, tt)
all_after_push x q (y ∷ qs) a l = (a.0, all_after_push x q qs a.1 l)

rise_push : (q : List ℕ) (qs : List (List ℕ)) → PathsRise qs → ((r : List ℕ) → IsIn r qs → PathLess r q) → PathsRise (qs ++ q ∷ [])
rise_push q [] a each = (tt, tt)
rise_push q (x ∷ qs) a each = (all_after_push x q qs a.0 (each x (inl refl)), rise_push q qs a.1 (λ r i. each r (inr i)))

-- ---- the visits among the states after s

-- each is that of a state at a place on the way
pub in_visits : (p : ProblemValue) (n : ℕ) (s : StateValue) (q : List ℕ) → Fits p s → IsIn q (visits p (states p n s)) → (i : ℕ) × (i < n) × IsVisitOf p (after p i s) q
in_visits p zero s q f h = absurd h
in_visits p (suc n) s q f h = step (in_visits p n s q f) (in_append q (visits p (states p n s)) (visit_of p (after p n s)) (rw (visits_push p (states p n s) (after p n s)) at h))
  where
    here : (b : Bool) → is_visit p (after p n s) ≡ b → IsIn q (cond b ((after p n s).path ∷ []) []) → (i : ℕ) × (i < suc n) × IsVisitOf p (after p i s) q
    here true e (inl g) = (n, le_refl (suc n), rw (sym g) at (visit_is p (after p n s) (after_fits p n s f) e))
    here true e (inr g) = absurd g
    here false e g = absurd g

    step : (IsIn q (visits p (states p n s)) → (i : ℕ) × (i < n) × IsVisitOf p (after p i s) q) → IsIn q (visits p (states p n s)) ⊎ IsIn q (visit_of p (after p n s)) → (i : ℕ) × (i < suc n) × IsVisitOf p (after p i s) q
    step ih (inl a) = let r = ih a in (r.0, omega (arith, r.1), r.2)
    step ih (inr b) = here (is_visit p (after p n s)) refl b

-- and each such state's path is among them
pub visit_in : (p : ProblemValue) (n : ℕ) (s : StateValue) (q : List ℕ) (i : ℕ) → i < n → IsVisitOf p (after p i s) q → IsIn q (visits p (states p n s))
visit_in p zero s q i l v = absurd (omega arith)
visit_in p (suc n) s q i l v = rw (visits_push p (states p n s) (after p n s)) (step (λ m. visit_in p n s q i m v) (cases_lt i n))
  where
    last : IsVisitOf p (after p n s) q → IsIn q (visits p (states p n s) ++ visit_of p (after p n s))
    last w =
        let e = visit_from p (after p n s) q w in
        let g : visit_of p (after p n s) ≡ q ∷ [] = rw e (ap (λ (t : StateValue). t.path ∷ []) w.place) in
        rw g (in_last q (visits p (states p n s)))

    step : (i < n → IsIn q (visits p (states p n s))) → (i < n) ⊎ (n ≤ i) → IsIn q (visits p (states p n s) ++ visit_of p (after p n s))
    step ih (inl m) = in_left q (visits p (states p n s)) (visit_of p (after p n s)) (ih m)
    step ih (inr m) = let e : i ≡ n = omega arith in last (rw e at v)

-- they rise
pub visits_rise_from : (p : ProblemValue) (n : ℕ) (s : StateValue) → Fits p s → ((i : ℕ) → i < n → (after p i s).label ≡ Done → ⊥) → PathsRise (visits p (states p n s))
visits_rise_from p zero s f g = tt
visits_rise_from p (suc n) s f g = rw (visits_push p (states p n s) (after p n s)) (step (is_visit p (after p n s)) refl (visits_rise_from p n s f (λ i l. g i (omega arith))))
  where
    less : is_visit p (after p n s) ≡ true → (r : List ℕ) → ((i : ℕ) × (i < n) × IsVisitOf p (after p i s) r) → PathLess r (after p n s).path
    less e r a =
        let v = visit_is p (after p n s) (after_fits p n s f) e in
        let b = rises_between p (suc n) s f g a.0 n a.1 (omega arith) in
        let x = ap (rank p) (a.2).place in
        let y = ap (rank p) v.place in
        rank_path p r (after p n s).path (a.2).valid v.valid (omega arith)

    step : (b : Bool) → is_visit p (after p n s) ≡ b → PathsRise (visits p (states p n s)) → PathsRise (visits p (states p n s) ++ cond b ((after p n s).path ∷ []) [])
    step true e ih = rise_push (after p n s).path (visits p (states p n s)) ih (λ r i. less e r (in_visits p n s r f i))
    step false e ih = rw append-nil ih

pub visits_rise : (p : ProblemValue) → PathsRise (visits_between p start done)
unfolding visits_between
visits_rise p = visits_rise_from p (steps_between p start done) start (start_fits p) (run_leads p).goes_on

-- ---- the visits of the run

pub in_visits_between : (p : ProblemValue) (q : List ℕ) → IsIn q (visits_between p start done) → IsValid p q × (length (active p (covered_by p q)) ≡ 0)
unfolding visits_between
in_visits_between p q h = let r = in_visits p (steps_between p start done) start q (start_fits p) h in ((r.2).valid, (r.2).none)

pub visits_between_in : (p : ProblemValue) (q : List ℕ) → IsValid p q → length (active p (covered_by p q)) ≡ 0 → IsIn q (visits_between p start done)
unfolding visits_between
visits_between_in p q v e = found ((run_is_fitting p).meets (at X2 q cursor.None) v)
  where
    found : ((i : ℕ) × (i ≤ steps_between p start done) × (after p i start ≡ at X2 q cursor.None)) → IsIn q (visits p (states p (steps_between p start done) start))
    found r = step (cases_lt r.0 (steps_between p start done))
      where
        step : (r.0 < steps_between p start done) ⊎ (steps_between p start done ≤ r.0) → IsIn q (visits p (states p (steps_between p start done) start))
        step (inl l) = visit_in p (steps_between p start done) start q r.0 l (record { place = r.2; valid = v; none = e })
        step (inr l) =
            let i : r.0 ≡ steps_between p start done = omega (arith, r.1) in
            let x : done ≡ at X2 q cursor.None = sym (run_leads p).ends ∙ ap (λ n. after p n start) (sym i) ∙ r.2 in
            let y : Done ≡ X2 = ap (λ (s : StateValue). s.label) x in absurd (cc)

pub visits_are_covers : (p : ProblemValue) → IsProblem p → AreCovers p (visits_between p start done)
unfolding IsValid covered_by
visits_are_covers p s = record {
  sound = λ q i. let r = in_visits_between p q i in path_is_cover p q r.0 r.1;
  complete = λ set e. let r = cover_is_path p set e in (r.0, visits_between_in p r.0 r.1 r.2, r.3);
  once = λ q r i j e. let a = in_visits_between p q i in let b = in_visits_between p r j in path_of_cover p [] q r a.0 b.0 a.1 b.1 e;
}
