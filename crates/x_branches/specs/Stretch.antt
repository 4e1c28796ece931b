-- A stretch: the part of a problem's run from one state up to another, without that one (`StretchValue`, `IsStretch`), what is kept of it
-- (`KeepsStretch`), it as a row of numbers (`kept_value`, `kept_visits`, `kept_levels`, `KeepsRow`), and many (`kept_values`, `KeepsRows`).
--
-- Example: the step from X2 to X8 with the path 4 5 1, a visit of the small problem, is the row 3 1 1 for no X2 state at three levels and then,
-- at one level, one; 1 6 4 5 1 for one visit of three choices; 2 0 0 3 4 5 1; and 3 8 0 0 0, since the second state has all three choices
-- of the first. proofs/RunnerExamples.antt computes it.
use Rattle.std.specs.Prelude.{◌≡◌, ℕ, List, [], ◌∷◌, ◌++◌, ⊤, replicate, slice_index}
use Rattle.cover_problem.specs.Problem.{ProblemValue}
use Rattle.x_steps.specs.StateValue.{StateValue}
use Rattle.x_steps.specs.Steps.{Fits}
use Rattle.x_steps.specs.Run.{ReachesIn, steps_between, visits_between}
use Rattle.x_steps.specs.Levels.{trimmed_levels}
use Rattle.x_codes.specs.StateCode.{later, after_of, path_of, path_rest, state_of, state_rest, paths_of, paths_rest}

-- a problem, and two states of its run: what lies between them is a function of these
pub record StretchValue : Type 0 where
  pub problem : ProblemValue
  pub from : StateValue
  pub to : StateValue

-- the paths visited on a stretch
abbrev pub visits_of_stretch : StretchValue → List (List ℕ)
visits_of_stretch s = visits_between s.problem s.from s.to

-- its X2 states at each level, as far as there are any
abbrev pub levels_of_stretch : StretchValue → List ℕ
levels_of_stretch s = trimmed_levels s.problem s.from s.to

-- the first state is one of the run, and the second is it or comes later
pub record IsStretch (p : ProblemValue) (s t : StateValue) : Type 0 where
  pub fits : Fits p s
  pub reaches : ReachesIn p s t (steps_between p s t)

-- what is kept of the part between: how many steps it has, its visits, and its X2 states at each level
pub record KeepsStretch (p : ProblemValue) (s t : StateValue) (steps : ℕ) (visits : List (List ℕ)) (levels : List ℕ) : Type 0 where
  pub order : IsStretch p s t
  pub steps_are : steps ≡ steps_between p s t
  pub visits_are : visits ≡ visits_between p s t
  pub levels_are : levels ≡ trimmed_levels p s t

-- ---- a stretch as a row of numbers: how many X2 states there are at each level, then its visits, its first state, and after the choices
-- of that the state that it leads to

-- the counts at the head of a row: how many are 0 before the others, and then these as a list
abbrev pub counts_of : List ℕ → List ℕ
counts_of ns = replicate (slice_index ns 0) 0 ++ path_of (later ns)

-- what comes after them
abbrev pub counts_rest : List ℕ → List ℕ
counts_rest ns = path_rest (later ns)

-- what comes after the counts and the visits
abbrev pub kept_ends : List ℕ → List ℕ
kept_ends ns = paths_rest (counts_rest ns)

-- the stretch that a row tells, of a problem
abbrev pub kept_value : ProblemValue → List ℕ → StretchValue
kept_value p ns = record {
  problem = p;
  from = state_of (kept_ends ns);
  to = after_of (state_of (kept_ends ns)).path (state_rest (kept_ends ns));
}

-- the visits that a row tells
abbrev pub kept_visits : List ℕ → List (List ℕ)
kept_visits ns = paths_of (counts_rest ns)

-- and the counts
abbrev pub kept_levels : List ℕ → List ℕ
kept_levels ns = counts_of ns

-- a row with the steps of the stretch that it tells
abbrev pub KeepsRow : ProblemValue → List ℕ → ℕ → Type 0
KeepsRow p ns steps =
    let x = kept_value p ns in
    KeepsStretch p x.from x.to steps (kept_visits ns) (kept_levels ns)

-- ---- many stretches

-- what stands beside the row of a stretch
pub record HeadValue : Type 0 where
  pub problem : ProblemValue
  pub steps : ℕ

-- the stretches that rows tell, each with what stands beside it
abbrev pub kept_values : List HeadValue → List (List ℕ) → List StretchValue
kept_values (h ∷ hs) (ns ∷ rows) = kept_value h.problem ns ∷ kept_values hs rows
kept_values _ _ = []

-- there are as many rows, each with the steps of its stretch
abbrev pub KeepsRows : List HeadValue → List (List ℕ) → Type 0
KeepsRows [] [] = ⊤
KeepsRows (h ∷ hs) (ns ∷ rows) = KeepsRow h.problem ns h.steps × KeepsRows hs rows
KeepsRows _ _ = ⊥
