-- What is counted below a path: the visits, and the X2 states at each level.
use Rattle.std.specs.Prelude.{ℕ, ◌+◌, ◌≡◌, List}
use Rattle.cover_problem.specs.Problem.{ProblemValue}
use Rattle.kept_counts.specs.Below.{states_below, visits_below}
use Rattle.cover_counts.specs.declared.below.Below.{Below}
use Rattle.cover_counts.specs.Levels.{count_at, AddsLower}

-- the X2 states that are counted at a level
abbrev pub states_at : Below → ℕ → ℕ
states_at b k = count_at b.low.items b.high.items k

-- these visits were added, and these states n levels further down
pub record GainsAt (n : ℕ) (old new : Below) (visits : ℕ) (levels : ℕ → ℕ) : Type 0 where
  pub visited : new.visits ≡ old.visits + visits
  pub at : AddsLower n (states_at old) (states_at new) levels

-- one level further down
abbrev pub Gains : Below → Below → ℕ → (ℕ → ℕ) → Type 0
Gains = GainsAt 1

-- what lies below a path that covers c was added, one level further down
abbrev pub GainsBelow : ProblemValue → List ℕ → Below → Below → Type 0
GainsBelow p c old new = Gains old new (visits_below p c) (λ k. states_below p k c)

-- b counts what lies below a path that covers c
pub record CountsBelow (p : ProblemValue) (c : List ℕ) (b : Below) : Type 0 where
  pub visited : b.visits ≡ visits_below p c
  pub at : (k : ℕ) → states_at b k ≡ states_below p k c
