-- Paths as sets: all exact covers, each once.
use Rattle.std.specs.Prelude.{ℕ, ◌≡◌, Bool, List}
use Rattle.cover_problem.specs.Problem.{ProblemValue}
use Rattle.shared_words.specs.Lists.{has}
use Rattle.cover_problem.specs.ExactCover.{IsExactCover}
use Rattle.x_steps.specs.Order.{IsIn}

-- the paths are, as sets, the exact covers, each once
pub record AreCovers (p : ProblemValue) (paths : List (List ℕ)) : Type 0 where
  pub sound : (q : List ℕ) → IsIn q paths → IsExactCover p (has q)
  pub complete : (set : ℕ → Bool) → IsExactCover p set → (q : List ℕ) × IsIn q paths × ((o : ℕ) → has q o ≡ set o)
  pub once : (q r : List ℕ) → IsIn q paths → IsIn r paths → ((o : ℕ) → has q o ≡ has r o) → q ≡ r
