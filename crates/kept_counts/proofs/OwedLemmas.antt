-- Each step pays for itself, so the steps of a stretch follow from what it passes and from what is owed at its ends.
use Rattle.std.proofs.Common.{◌≡◌, ℕ, zero, suc, ◌+◌, ◌*◌, ◌<◌, ◌⊎◌, true, false, Option, Some, List, [], ◌∷◌, ◌++◌, length, sum, sum_by, refl, sym, ap, ◌∙◌, inl, inr, arith, length-append}
use Rattle.std.specs.Prelude as prelude
use Rattle.std.proofs.lemmas.List.Sums.{sum_by_push, sum-map}
use Rattle.shared_words.specs.Lists.{above, numbers}
use Rattle.cover_problem.specs.Problem.{ProblemValue, IsProblem}
use Rattle.cover_problem.specs.Covering.{active}
use Rattle.cover_problem.specs.Path.{covered_by}
use Rattle.x_steps.specs.declared.state.Label.{Label}
use Rattle.x_steps.specs.declared.state.Label.TheVariants.{X1, X2, X3, X4, X5, X6, X7, X8, Done}
use Rattle.x_steps.specs.declared.state.Cursor.{Cursor}
use Rattle.x_steps.specs.declared.state.Cursor.TheVariants as cursor
use Rattle.x_steps.specs.declared.state.Cursor.TheVariants.{At, Past}
use Rattle.x_steps.specs.StateValue.{StateValue, at}
use Rattle.x_steps.specs.Steps.{is_open, IsOpen, remaining_after, split_last, next_cursor, FitsAt, Fits, taken_back, next_at, next}
use Rattle.x_steps.specs.Run.{after, states, visits, level_count, ReachesIn, steps_between, states_between, visits_between, levels}
use Rattle.x_steps.proofs.Neighbours.{split_last_push, split_last_cases, open_cases}
use Rattle.x_steps.proofs.RunLemmas.{after_fits, steps_between_is}
use Rattle.kept_counts.specs.Owed.{owed}
use Rattle.kept_counts.proofs.GatherLemmas.{weight}
use Rattle.kept_counts.proofs.RunLemmas.{visit_weight, visits_sum, levels_sum, deep}

-- one step pays for itself
abbrev Pays : ProblemValue → StateValue → StateValue → Type 0
Pays p s t = 1 + owed t + 4 * weight (visit_weight p) s ≡ 8 * weight (λ q. 1) s + owed s

pays_at : (p : ProblemValue) (l : Label) (path : List ℕ) (k : Cursor) → FitsAt p l path k → (l ≡ Done → ⊥) → Pays p (at l path k) (next_at p l path k)
pays_at p X1 path cursor.None f g = rw f (omega arith)
pays_at p X2 path cursor.None f g = step (open_cases p path)
  where
    step : ((is_open p path ≡ true) × IsOpen p path) ⊎ ((is_open p path ≡ false) × (length (active p (covered_by p path)) ≡ 0)) → Pays p (at X2 path cursor.None) (next_at p X2 path cursor.None)
    step (inl e) = rw e.0 (omega arith)
    step (inr e) = rw e.0 (omega arith)
pays_at p X3 path cursor.None f g = omega arith
pays_at p X4 path cursor.None f g = look (above 0 (remaining_after p path))
  where
    look : (a : Option ℕ) → Pays p (at X4 path cursor.None) (at X5 path (next_cursor a))
    look prelude.None = omega arith
    look (Some o) = omega arith
pays_at p X5 path (At o) f g = let e = length-append path (o ∷ []) in omega (arith, e)
pays_at p X5 path Past f g = omega arith
pays_at p X6 path (At o) f g = look (above o (remaining_after p path))
  where
    look : (a : Option ℕ) → Pays p (at X6 path (At o)) (at X5 path (next_cursor a))
    look prelude.None = omega arith
    look (Some o) = omega arith
pays_at p X7 path cursor.None f g = omega arith
pays_at p X8 path cursor.None f g = step (split_last_cases path)
  where
    step : (path ≡ []) ⊎ ((q : List ℕ) × (o : ℕ) × (path ≡ q ++ o ∷ [])) → Pays p (at X8 path cursor.None) (taken_back (split_last path))
    step (inl e) = rw e (omega arith)
    step (inr s) = rw (s.2, split_last_push s.0 s.1) (let e = length-append s.0 (s.1 ∷ []) in omega (arith, e))
pays_at p Done path cursor.None f g = absurd (g refl)
pays_at p _ path _ f g = absurd f

pays : (p : ProblemValue) (s : StateValue) → Fits p s → (s.label ≡ Done → ⊥) → Pays p s (next p s)
unfolding next
pays p s f g = pays_at p s.label s.path s.cursor f g

-- so do n steps
paid : (p : ProblemValue) (s : StateValue) → Fits p s → (n : ℕ) → ((i : ℕ) → i < n → (after p i s).label ≡ Done → ⊥)
    → n + owed (after p n s) + 4 * sum_by (weight (visit_weight p)) (states p n s) ≡ 8 * sum_by (weight (λ q. 1)) (states p n s) + owed s
paid p s f zero g = omega arith
paid p s f (suc n) g =
    let t = after p n s in
    let ih = paid p s f n (λ i l. g i (omega (arith, l))) in
    let one = pays p t (after_fits p n s f) (g n (omega arith)) in
    let a = sum_by_push (weight (visit_weight p)) (states p n s) t in
    let b = sum_by_push (weight (λ q. 1)) (states p n s) t in
    omega (arith, ih, one, a, b)

-- the X2 states of a stretch, level by level
levels_are : (p : ProblemValue) (s : StateValue) (n : ℕ) → IsProblem p → Fits p s → sum (levels p s (after p n s)) ≡ sum_by (weight (λ q. 1)) (states_between p s (after p n s))
unfolding levels
levels_are p s n is f =
    let t = after p n s in
    let count = length p.names + 1 in
    let w = is.within in
    sum-map (level_count (states_between p s t)) (numbers count 0) ∙ levels_sum p (states_between p s t) count ∙ deep p count (steps_between p s t) s f (omega (arith, w))

pub steps_follow : (p : ProblemValue) (s t : StateValue) (n : ℕ) → IsProblem p → Fits p s → ReachesIn p s t n → n + owed t + 4 * length (visits_between p s t) ≡ 8 * sum (levels p s t) + owed s
unfolding visits_between
steps_follow p s t n is f r =
    let e = steps_between_is p s t n f r in
    let a = paid p s f n r.goes_on in
    let same = r.ends in
    let l : sum (levels p s t) ≡ sum_by (weight (λ q. 1)) (states_between p s t) = rw (← same) (levels_are p s n is f) in
    let b : states_between p s t ≡ states p n s = ap (λ m. states p m s) e in
    let v = visits_sum p (states_between p s t) in
    let c = ap (sum_by (weight (visit_weight p))) b in
    let d = ap (sum_by (weight (λ (q : List ℕ). 1))) b in
    let o = ap owed same in
    omega (arith, a, l, v, c, d, o)
