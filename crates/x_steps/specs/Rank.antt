-- Where a state stands on the run, as a number that each step raises: a device of the proofs, by which every search ends.
-- The digits are those of the path, and one for the label and the cursor.
use Rattle.std.specs.Prelude.{ℕ, zero, suc, ◌+◌, ◌*◌, ◌^◌, List, [], ◌∷◌, ◌++◌, length, map}
use Rattle.cover_problem.specs.Problem.{ProblemValue}
use Rattle.x_steps.specs.declared.state.Label.{Label}
use Rattle.x_steps.specs.declared.state.Label.TheVariants.{X1, X2, X3, X4, X5, X6, X7, X8, Done}
use Rattle.x_steps.specs.declared.state.Cursor.{Cursor}
use Rattle.x_steps.specs.declared.state.Cursor.TheVariants.{At}
use Rattle.x_steps.specs.StateValue.{StateValue}

-- of m options: what is done before all deeper choices, at them, and after them
abbrev pub digit_at : ℕ → Label → Cursor → ℕ
digit_at m X1 k = 0
digit_at m X2 k = 1
digit_at m X3 k = 2
digit_at m X4 k = 3
digit_at m X5 (At o) = 4 * o + 1
digit_at m X5 k = 4 * m + 5
digit_at m X6 (At o) = 4 * o + 3
digit_at m X6 k = 0
digit_at m X7 k = 4 * m + 6
digit_at m X8 k = 4 * m + 7
digit_at m Done k = 4 * m + 8

-- the digits of a state where a problem has m options: one for each choice of its path, and one for its label and its cursor
abbrev pub digits : ℕ → Label → List ℕ → Cursor → List ℕ
digits m label path k = map (λ o. 4 * o + 2) path ++ digit_at m label k ∷ []

-- a fraction's first n digits in this base, as a number
abbrev pub number : ℕ → ℕ → List ℕ → ℕ
number base zero ds = 0
number base (suc n) [] = 0
number base (suc n) (d ∷ ds) = d * base ^ n + number base n ds

-- a path has at most one choice for each primary item
unfoldable pub rank : ProblemValue → StateValue → ℕ
rank p s = number (4 * length p.options + 9) (suc p.primary) (digits (length p.options) s.label s.path s.cursor)
