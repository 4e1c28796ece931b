-- A stretch of a run, as it is counted: what was added for the states between two states, and where its table stands.
use Rattle.std.specs.Prelude.{ℕ, ◌+◌, ◌≡◌, List, length}
use Rattle.cover_problem.specs.Problem.{ProblemValue}
use Rattle.cover_problem.specs.Path.{covered_by}
use Rattle.x_steps.specs.StateValue.{StateValue}
use Rattle.x_steps.specs.Steps.{Fits}
use Rattle.x_steps.specs.Run.{level_count, states_between, visits_between}
use Rattle.cover_counts.specs.declared.below.Below.{Below}
use Rattle.cover_counts.specs.Below.{states_at}
use Rattle.cover_counts.specs.Search.{IsTableOf}

-- the visits and the X2 states between s and t were added, the states at the levels that they have in the run
pub record Counts (p : ProblemValue) (s t : StateValue) (old new : Below) : Type 0 where
  pub visited : new.visits ≡ old.visits + length (visits_between p s t)
  pub at : (k : ℕ) → states_at new k ≡ states_at old k + level_count (states_between p s t) k

-- a table of q, which is p, covers the items c of the path of s, which is a state of the search
pub record IsTableAt (p q : ProblemValue) (c : List ℕ) (s : StateValue) : Type 0 where
  pub table : IsTableOf p q c
  pub fits : Fits p s
  pub covered : c ≡ covered_by p s.path

-- these are the visits and the X2 states between s and t
pub record CountsAll (p : ProblemValue) (s t : StateValue) (b : Below) : Type 0 where
  pub visited : b.visits ≡ length (visits_between p s t)
  pub at : (k : ℕ) → states_at b k ≡ level_count (states_between p s t) k
