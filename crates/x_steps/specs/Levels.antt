-- Counts for each level, cut after the last one above 0.
--
-- Example: of the levels 1 2 2 1 0 0 0 0 of the small problem's run 1 2 2 1 are left (computed in proofs/StepExamples.antt).
use Rattle.std.specs.Prelude.{ℕ, ◌==◌, List, [], ◌∷◌, if◌then◌else◌}
use Rattle.cover_problem.specs.Problem.{ProblemValue}
use Rattle.x_steps.specs.StateValue.{StateValue}
use Rattle.x_steps.specs.Run.{levels}

-- x before a list that has no zero at its end, unless that makes one
abbrev pub before_counts : ℕ → List ℕ → List ℕ
before_counts x [] = if x == 0 then [] else x ∷ []
before_counts x (y ∷ ys) = x ∷ y ∷ ys

-- a list without the zeros at its end
unfoldable pub without_last_zeros : List ℕ → List ℕ
without_last_zeros [] = []
without_last_zeros (x ∷ xs) = before_counts x (without_last_zeros xs)

-- the X2 states at each level from 0 on, from s up to t, as far as there are any
unfoldable pub trimmed_levels : ProblemValue → StateValue → StateValue → List ℕ
trimmed_levels p s t = without_last_zeros (levels p s t)
