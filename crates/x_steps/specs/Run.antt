-- The run: the step table applied again and again, from X1 to Done; its visits, its steps and its levels.
--
-- Example: the run of the small problem has 43 steps, the visit 4 5 1, and 1 2 2 1 X2 states at the levels 0 to 3 (computed in
-- proofs/StepExamples.antt).
use Rattle.std.specs.Prelude.{ℕ, zero, suc, ◌+◌, ◌≤◌, ◌<◌, ◌≡◌, ◌==◌, nat_lt, ◌&&◌, List, [], ◌∷◌, ◌++◌, length, map, filter, count_by}
use Rattle.std.specs.Prelude.{if◌then◌else◌}
use Rattle.cover_problem.specs.Problem.{ProblemValue}
use Rattle.shared_words.specs.Lists.{numbers}
use Rattle.x_steps.specs.declared.state.Label.TheVariants.{Done}
use Rattle.x_steps.specs.StateValue.{StateValue, start, done}
use Rattle.x_steps.specs.Steps.{Fits, next, is_entry, is_visit, is_level}
use Rattle.x_steps.specs.Rank.{rank}

-- the n-th state after s
abbrev pub after : ProblemValue → ℕ → StateValue → StateValue
after p zero s = s
after p (suc n) s = next p (after p n s)

-- the states from s up to the n-th after it, without that one
abbrev pub states : ProblemValue → ℕ → StateValue → List StateValue
states p zero s = []
states p (suc n) s = states p n s ++ after p n s ∷ []

-- the paths visited among these states
abbrev pub visits : ProblemValue → List StateValue → List (List ℕ)
visits p ss = map (λ s. s.path) (filter (is_visit p) ss)

-- the entries of X2 among them that find an active item
abbrev pub entries : ProblemValue → List StateValue → ℕ
entries p ss = count_by (is_entry p) ss

-- the X2 states among them whose path has this many choices
abbrev pub level_count : List StateValue → ℕ → ℕ
level_count ss level = count_by (λ s. is_level s.label && (length s.path == level)) ss

-- the steps from s to t, if at most `most`: one more while the state stands before t on the run
abbrev pub distance : ProblemValue → ℕ → StateValue → StateValue → ℕ
distance p zero s t = 0
distance p (suc most) s t = if nat_lt (rank p s) (rank p t) then suc (distance p most (next p s) t) else 0

-- how many steps lead from s to t: the rank rises with each
unfoldable pub steps_between : ProblemValue → StateValue → StateValue → ℕ
steps_between p s t = distance p (rank p t) s t

-- the states from s up to t, without t
abbrev pub states_between : ProblemValue → StateValue → StateValue → List StateValue
states_between p s t = states p (steps_between p s t) s

-- the paths visited from s up to t
unfoldable pub visits_between : ProblemValue → StateValue → StateValue → List (List ℕ)
visits_between p s t = visits p (states_between p s t)

-- the X2 states at each level from 0 on, from s up to t, as many levels as there are items and one more
unfoldable pub levels : ProblemValue → StateValue → StateValue → List ℕ
levels p s t = map (level_count (states_between p s t)) (numbers (length p.names + 1) 0)

-- what the laws of the run say: done is its n-th state, no state comes twice, and the fitting states are those on it
pub record IsRun (p : ProblemValue) (n : ℕ) : Type 0 where
  pub ends : after p n start ≡ done
  pub once : (i j : ℕ) → i ≤ n → j ≤ n → after p i start ≡ after p j start → i ≡ j
  pub fits : (i : ℕ) → Fits p (after p i start)
  pub meets : (s : StateValue) → Fits p s → (i : ℕ) × (i ≤ n) × (after p i start ≡ s)

-- t is the n-th state after s, and the run doesn't end before
pub record ReachesIn (p : ProblemValue) (s t : StateValue) (n : ℕ) : Type 0 where
  pub ends : after p n s ≡ t
  pub goes_on : (i : ℕ) → i < n → (after p i s).label ≡ Done → ⊥
