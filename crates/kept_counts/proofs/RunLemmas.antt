-- What is summed over a run tells its visits, its levels and its steps.
use Rattle.std.proofs.Common.{◌≡◌, ℕ, zero, suc, ◌+◌, ◌*◌, ◌<◌, ◌≤◌, ◌⊎◌, ◌==◌, nat_lt, Bool, true, false, not, ◌&&◌, cond, List, [], ◌∷◌, ◌++◌, length, map, filter, sum, sum_by, refl, sym, ap, ap₂, ◌∙◌, inl, inr, arith, length-append, le_refl}
use Rattle.std.proofs.Math.Path.{fun_ext}
use Rattle.std.proofs.lemmas.Bool.{cases_lt, lt-ltb, le-ltb, eq-eqb, ne_eqb}
use Rattle.std.proofs.lemmas.List.{length-map}
use Rattle.std.proofs.lemmas.List.Sums.{sum_by-cons, sum_by_push, sum-map, length-filter}
use Rattle.shared_words.specs.Lists.{numbers}
use Rattle.cover_problem.specs.Problem.{ProblemValue, IsProblem}
use Rattle.cover_problem.specs.Covering.{active}
use Rattle.cover_problem.specs.Path.{taken, covered_by, IsValid}
use Rattle.cover_problem.proofs.NumberLemmas.{numbers_push}
use Rattle.cover_problem.proofs.PathLemmas.{choice_falls, covered_by_push, covered_by_none, depth}
use Rattle.x_steps.specs.declared.state.Label.{Label}
use Rattle.x_steps.specs.declared.state.Label.TheVariants.{X2, X8}
use Rattle.x_steps.specs.declared.state.Cursor.{Cursor}
use Rattle.x_steps.specs.declared.state.Cursor.TheVariants as cursor
use Rattle.x_steps.specs.StateValue.{StateValue, at, start, done}
use Rattle.x_steps.specs.Steps.{is_open, IsOpen, is_level, is_entry, is_visit, FitsAt, Fits}
use Rattle.x_steps.specs.Run.{after, states, visits, entries, level_count, steps_between, states_between, visits_between, levels}
use Rattle.x_steps.specs.Levels.{without_last_zeros, trimmed_levels}
use Rattle.x_steps.proofs.Neighbours.{open_cases}
use Rattle.x_steps.proofs.RunLemmas.{start_fits, after_fits}
use Rattle.x_steps.proofs.Length.{run_length}
use Rattle.kept_counts.specs.Below.{tried_options, states_below, visits_within, visits_below}
use Rattle.kept_counts.proofs.SumLemmas.{sum_on, sum_none, sum_both}
use Rattle.kept_counts.proofs.BelowLemmas.{choices_none, choices_are, within_none, within_some, visits_enough}
use Rattle.kept_counts.proofs.GatherLemmas.{weight, gathered, adds_between, path_adds, run_adds}

-- ---- what is counted among states, as a sum

-- a path without active items is a visit
abbrev pub visit_weight : ProblemValue → List ℕ → ℕ
visit_weight p q = cond (is_open p q) 0 1

-- a path of so many choices
abbrev pub level_weight : ℕ → List ℕ → ℕ
level_weight level q = cond (length q == level) 1 0

-- a path of fewer choices
abbrev pub within_weight : ℕ → List ℕ → ℕ
within_weight n q = cond (nat_lt (length q) n) 1 0

abbrev one_if : Bool → ℕ
one_if b = cond b 1 0

abbrev none_if : Bool → ℕ
none_if b = cond b 0 1

both_hold : (a b : Bool) → one_if (a && b) ≡ cond a (one_if b) 0
both_hold true b = refl
both_hold false b = refl

not_both : (a b : Bool) → one_if (a && not b) ≡ cond a (none_if b) 0
not_both true true = refl
not_both true false = refl
not_both false b = refl

pub visits_sum : (p : ProblemValue) (ss : List StateValue) → length (visits p ss) ≡ sum_by (weight (visit_weight p)) ss
visits_sum p ss =
    length-map (filter (is_visit p) ss) (λ (s : StateValue). s.path) ∙ length-filter (is_visit p) ss
    ∙ ap (λ (f : StateValue → ℕ). sum_by f ss) (fun_ext (λ (s : StateValue). not_both (is_level s.label) (is_open p s.path)))

pub level_sum : (ss : List StateValue) (level : ℕ) → level_count ss level ≡ sum_by (weight (level_weight level)) ss
level_sum ss level = ap (λ (f : StateValue → ℕ). sum_by f ss) (fun_ext (λ (s : StateValue). both_hold (is_level s.label) (length s.path == level)))

-- ---- what is summed below a path

open_one : (p : ProblemValue) (q : List ℕ) → is_open p q ≡ true → visit_weight p q ≡ 0
open_one p q e = rw e refl

closed_one : (p : ProblemValue) (q : List ℕ) → is_open p q ≡ false → visit_weight p q ≡ 1
closed_one p q e = rw e refl

pub gathered_visits : (p : ProblemValue) (n : ℕ) (q : List ℕ) → length (active p (covered_by p q)) ≤ n → gathered p (visit_weight p) n q ≡ visits_within p n (covered_by p q)
gathered_visits p zero q l = step (open_cases p q)
  where
    step : ((is_open p q ≡ true) × IsOpen p q) ⊎ ((is_open p q ≡ false) × (length (active p (covered_by p q)) ≡ 0)) → visit_weight p q ≡ 1
    step (inl e) = absurd (omega (arith, e.1, l))
    step (inr e) = closed_one p q e.0
gathered_visits p (suc n) q l = step (open_cases p q) (gathered_visits p n)
  where
    step : ((is_open p q ≡ true) × IsOpen p q) ⊎ ((is_open p q ≡ false) × (length (active p (covered_by p q)) ≡ 0)) → ((r : List ℕ) → length (active p (covered_by p r)) ≤ n → gathered p (visit_weight p) n r ≡ visits_within p n (covered_by p r)) → visit_weight p q + sum_by (λ o. gathered p (visit_weight p) n (q ++ o ∷ [])) (tried_options p (covered_by p q)) ≡ visits_within p (suc n) (covered_by p q)
    step (inr e) ih =
        let a = closed_one p q e.0 in
        let b = ap (sum_by (λ o. gathered p (visit_weight p) n (q ++ o ∷ []))) (choices_none p (covered_by p q) e.1) in
        let d = within_none p (suc n) (covered_by p q) e.1 in
        omega (arith, a, b, d)
    step (inl e) ih =
        let a = open_one p q e.0 in
        let b = sum_on (λ o. gathered p (visit_weight p) n (q ++ o ∷ [])) (λ o. visits_within p n (taken p (covered_by p q) o)) (tried_options p (covered_by p q))
        (λ o h.
        let f = choice_falls p (covered_by p q) o (choices_are p (covered_by p q) o e.1 h) in
        let g = covered_by_push p q o in
        ih (q ++ o ∷ []) (rw g (omega (arith, f, l))) ∙ ap (visits_within p n) g) in
        let d = within_some p n (covered_by p q) e.1 in
        omega (arith, a, b, d)

-- no path below one has fewer choices
pub gathered_above : (p : ProblemValue) (n level : ℕ) (q : List ℕ) → level < length q → gathered p (level_weight level) n q ≡ 0
gathered_above p zero level q l = rw (ne_eqb (length q) level (λ e. omega (arith, e, l))) refl
gathered_above p (suc n) level q l =
    let a : level_weight level q ≡ 0 = rw (ne_eqb (length q) level (λ e. omega (arith, e, l))) refl in
    let b = sum_none (λ o. gathered p (level_weight level) n (q ++ o ∷ [])) (tried_options p (covered_by p q))
    (λ o h. gathered_above p n level (q ++ o ∷ []) (let e = length-append q (o ∷ []) in omega (arith, e, l))) in
    omega (arith, a, b)

pub gathered_levels : (p : ProblemValue) (n k level : ℕ) (q : List ℕ) → level ≡ length q + k → length (active p (covered_by p q)) ≤ n → gathered p (level_weight level) n q ≡ states_below p k (covered_by p q)
gathered_levels p zero zero level q e l = rw (eq-eqb (length q) level (omega (arith, e))) refl
gathered_levels p zero (suc k) level q e l =
    let a : level_weight level q ≡ 0 = rw (ne_eqb (length q) level (λ h. omega (arith, h, e))) refl in
    let b = ap (sum_by (λ o. states_below p k (taken p (covered_by p q) o))) (choices_none p (covered_by p q) (omega (arith, l))) in
    omega (arith, a, b)
gathered_levels p (suc n) zero level q e l =
    let a : level_weight level q ≡ 1 = rw (eq-eqb (length q) level (omega (arith, e))) refl in
    let b = sum_none (λ o. gathered p (level_weight level) n (q ++ o ∷ [])) (tried_options p (covered_by p q))
    (λ o h. gathered_above p n level (q ++ o ∷ []) (let f = length-append q (o ∷ []) in omega (arith, f, e))) in
    omega (arith, a, b)
gathered_levels p (suc n) (suc k) level q e l = step (open_cases p q) (gathered_levels p n k level)
  where
    step : ((is_open p q ≡ true) × IsOpen p q) ⊎ ((is_open p q ≡ false) × (length (active p (covered_by p q)) ≡ 0)) → ((r : List ℕ) → level ≡ length r + k → length (active p (covered_by p r)) ≤ n → gathered p (level_weight level) n r ≡ states_below p k (covered_by p r)) → gathered p (level_weight level) (suc n) q ≡ states_below p (suc k) (covered_by p q)
    step (inr x) ih =
        let a : level_weight level q ≡ 0 = rw (ne_eqb (length q) level (λ h. omega (arith, h, e))) refl in
        let b = ap (sum_by (λ o. gathered p (level_weight level) n (q ++ o ∷ []))) (choices_none p (covered_by p q) x.1) in
        let d = ap (sum_by (λ o. states_below p k (taken p (covered_by p q) o))) (choices_none p (covered_by p q) x.1) in
        omega (arith, a, b, d)
    step (inl x) ih =
        let a : level_weight level q ≡ 0 = rw (ne_eqb (length q) level (λ h. omega (arith, h, e))) refl in
        let b = sum_on (λ o. gathered p (level_weight level) n (q ++ o ∷ [])) (λ o. states_below p k (taken p (covered_by p q) o)) (tried_options p (covered_by p q))
        (λ o h.
        let f = choice_falls p (covered_by p q) o (choices_are p (covered_by p q) o x.1 h) in
        let g = covered_by_push p q o in
        let j = length-append q (o ∷ []) in
        ih (q ++ o ∷ []) (omega (arith, j, e)) (rw g (omega (arith, f, l))) ∙ ap (states_below p k) g) in
        omega (arith, a, b)

-- ---- between the X2 and the X8 of a path

module _ (p : ProblemValue) (q : List ℕ) (v : IsValid p q) where
  pub path_visits : length (visits_between p (at X2 q cursor.None) (at X8 q cursor.None)) ≡ visits_below p (covered_by p q)
  unfolding visits_between
  path_visits =
      let n = length (active p (covered_by p q)) in
      visits_sum p (states_between p (at X2 q cursor.None) (at X8 q cursor.None))
      ∙ adds_between p (visit_weight p) (at X2 q cursor.None) (at X8 q cursor.None) (gathered p (visit_weight p) n q) v (path_adds p (visit_weight p) n q v (le_refl n))
      ∙ gathered_visits p n q (le_refl n) ∙ visits_enough p n (covered_by p q) (le_refl n)

  path_level : (level : ℕ) → level_count (states_between p (at X2 q cursor.None) (at X8 q cursor.None)) level ≡ gathered p (level_weight level) (length (active p (covered_by p q))) q
  path_level level =
      let n = length (active p (covered_by p q)) in
      level_sum (states_between p (at X2 q cursor.None) (at X8 q cursor.None)) level
      ∙ adds_between p (level_weight level) (at X2 q cursor.None) (at X8 q cursor.None) (gathered p (level_weight level) n q) v (path_adds p (level_weight level) n q v (le_refl n))

  pub path_levels : (k : ℕ) → level_count (states_between p (at X2 q cursor.None) (at X8 q cursor.None)) (length q + k) ≡ states_below p k (covered_by p q)
  path_levels k = let n = length (active p (covered_by p q)) in path_level (length q + k) ∙ gathered_levels p n k (length q + k) q refl (le_refl n)

  pub path_above : (level : ℕ) → level < length q → level_count (states_between p (at X2 q cursor.None) (at X8 q cursor.None)) level ≡ 0
  path_above level l = path_level level ∙ gathered_above p (length (active p (covered_by p q))) level q l

-- ---- the whole run

module _ (p : ProblemValue) where
  pub run_visits : length (visits_between p start done) ≡ visits_below p []
  unfolding visits_between
  run_visits =
      let n = length (active p (covered_by p [])) in
      visits_sum p (states_between p start done)
      ∙ adds_between p (visit_weight p) start done (gathered p (visit_weight p) n []) (start_fits p) (run_adds p (visit_weight p) n (le_refl n))
      ∙ gathered_visits p n [] (le_refl n) ∙ visits_enough p n (covered_by p []) (le_refl n) ∙ ap (visits_below p) (covered_by_none p)

  run_level : (level : ℕ) → level_count (states_between p start done) level ≡ states_below p level []
  run_level level =
      let n = length (active p (covered_by p [])) in
      level_sum (states_between p start done) level
      ∙ adds_between p (level_weight level) start done (gathered p (level_weight level) n []) (start_fits p) (run_adds p (level_weight level) n (le_refl n))
      ∙ gathered_levels p n level level [] (let e : level ≡ 0 + level = omega arith in e) (le_refl n) ∙ ap (states_below p level) (covered_by_none p)

  pub run_levels : levels p start done ≡ map (λ k. states_below p k []) (numbers (length p.names + 1) 0)
  unfolding levels
  run_levels = ap (λ (f : ℕ → ℕ). map f (numbers (length p.names + 1) 0)) (fun_ext run_level)

  pub run_trimmed : trimmed_levels p start done ≡ without_last_zeros (map (λ k. states_below p k []) (numbers (length p.names + 1) 0))
  unfolding trimmed_levels
  run_trimmed = ap without_last_zeros run_levels

  -- ---- steps

  part : (a b : Bool) → one_if (a && b) + one_if (a && not b) ≡ one_if a
  part true true = refl
  part true false = refl
  part false b = refl

  -- each X2 finds an active item or is a visit
  entries_and_visits : (ss : List StateValue) → entries p ss + length (visits p ss) ≡ sum_by (weight (λ q. 1)) ss
  entries_and_visits ss =
      let v : length (visits p ss) ≡ sum_by (λ s. cond (is_visit p s) 1 0) ss = length-map (filter (is_visit p) ss) (λ (s : StateValue). s.path) ∙ length-filter (is_visit p) ss in
      ap (λ n. entries p ss + n) v
      ∙ sym (sum_both (λ s. cond (is_entry p s) 1 0) (λ s. cond (is_visit p s) 1 0) ss)
      ∙ ap (λ (f : StateValue → ℕ). sum_by f ss) (fun_ext (λ (s : StateValue). part (is_level s.label) (is_open p s.path)))

  one_more : (m n : ℕ) → one_if (nat_lt m (suc n)) ≡ one_if (nat_lt m n) + one_if (m == n)
  one_more m n = step (cases_lt m n) (cases_lt n m)
    where
      step : (m < n) ⊎ (n ≤ m) → (n < m) ⊎ (m ≤ n) → one_if (nat_lt m (suc n)) ≡ one_if (nat_lt m n) + one_if (m == n)
      step (inl l) b = rw (lt-ltb m n l, lt-ltb m (suc n) (omega (arith, l)), ne_eqb m n (λ e. omega (arith, e, l))) refl
      step (inr l) (inl g) = rw (le-ltb m n l, le-ltb m (suc n) (omega (arith, g)), ne_eqb m n (λ e. omega (arith, e, g))) refl
      step (inr l) (inr g) = rw (le-ltb m n l, lt-ltb m (suc n) (omega (arith, g)), eq-eqb m n (omega (arith, l, g))) refl

  split : (a : Bool) (x y z : ℕ) → x ≡ y + z → cond a x 0 ≡ cond a y 0 + cond a z 0
  split true x y z e = e
  split false x y z e = refl

  pub levels_sum : (ss : List StateValue) (n : ℕ) → sum_by (level_count ss) (numbers n 0) ≡ sum_by (weight (within_weight n)) ss
  levels_sum ss zero = sym (nothing ss)
    where
      none : (s : StateValue) → weight (within_weight 0) s ≡ 0
      none s = step (is_level s.label)
        where
          step : (a : Bool) → cond a (one_if (nat_lt (length s.path) 0)) 0 ≡ 0
          step true = rw (le-ltb (length s.path) 0 (omega arith)) refl
          step false = refl

      nothing : (ss : List StateValue) → sum_by (weight (within_weight 0)) ss ≡ 0
      nothing [] = refl
      nothing (s ∷ ss) = sum_by-cons (weight (within_weight 0)) s ss ∙ ap₂ (λ a b. a + b) (none s) (nothing ss)
  levels_sum ss (suc n) =
      let a = ap (sum_by (level_count ss)) (numbers_push n 0) ∙ sum_by_push (level_count ss) (numbers n 0) (0 + n) in
      let ih = levels_sum ss n in
      let z : 0 + n ≡ n = omega arith in
      let c = ap (level_count ss) z ∙ level_sum ss n in
      let d = sum_both (weight (within_weight n)) (weight (level_weight n)) ss in
      let f = ap (λ (f : StateValue → ℕ). sum_by f ss) (fun_ext (λ (s : StateValue). split (is_level s.label) (within_weight (suc n) s.path) (within_weight n s.path) (level_weight n s.path) (one_more (length s.path) n))) in
      a ∙ ap₂ (λ x y. x + y) ih c ∙ sym d ∙ sym f

  -- no path of the run has more choices than there are primary items
  deep_at : (n : ℕ) (l : Label) (path : List ℕ) (k : Cursor) → p.primary < n → FitsAt p l path k → weight (within_weight n) (at l path k) ≡ weight (λ q. 1) (at l path k)
  deep_at n X2 path cursor.None g f = let d = depth p path f in rw (lt-ltb (length path) n (omega (arith, d, g))) refl
  deep_at n X2 path _ g f = absurd f
  deep_at n _ path _ g f = refl

  pub deep : (n m : ℕ) (s : StateValue) → Fits p s → p.primary < n → sum_by (weight (within_weight n)) (states p m s) ≡ sum_by (weight (λ q. 1)) (states p m s)
  deep n zero s f g = refl
  deep n (suc m) s f g =
      let t = after p m s in
      sum_by_push (weight (within_weight n)) (states p m s) t
      ∙ ap₂ (λ a b. a + b) (deep n m s f g) (deep_at n t.label t.path t.cursor g (after_fits p m s f))
      ∙ sym (sum_by_push (weight (λ q. 1)) (states p m s) t)

  pub run_steps : IsProblem p → steps_between p start done + 1 + 4 * visits_below p [] ≡ 8 * sum (levels p start done)
  unfolding visits_between levels
  run_steps s =
      let ss = states_between p start done in
      let n = length p.names + 1 in
      let w = s.within in
      let a = run_length p in
      let b = entries_and_visits ss in
      let c : sum (levels p start done) ≡ sum_by (weight (λ q. 1)) ss = sum-map (level_count ss) (numbers n 0) ∙ levels_sum ss n ∙ deep n (steps_between p start done) start (start_fits p) (omega (arith, w)) in
      let d : length (visits p ss) ≡ visits_below p [] = run_visits in
      omega (arith, a, b, c, d)
