-- What a call returns.
use Rattle.std.specs.Prelude.{ℕ, ◌≡◌, Option, option_map, Result, IfOk, List}
use Rattle.std.specs.Global.{Vec}
use Rattle.shared_words.specs.Answers.{ReturnsItems}
use Rattle.cover_problem.specs.Problem.{ProblemValue}
use Rattle.cover_problem.specs.Covering.{list_of}
use Rattle.x_steps.specs.Machine.{remaining_items}
use Rattle.x_steps.specs.StateView.{row_value, row_values}

-- the call returns rows of these values, unless it has an error
abbrev pub ReturnsRows : {E : Type 0} → Result (Vec (ℕ × Vec ℕ)) E → List (ℕ × List ℕ) → Type 0
ReturnsRows result rows = IfOk result (λ v. row_values v.items ≡ rows)

-- the call returns a row of this value, or none, unless it has an error
abbrev pub ReturnsRow : {E : Type 0} → Result (Option (ℕ × Vec ℕ)) E → Option (ℕ × List ℕ) → Type 0
ReturnsRow result row = IfOk result (λ r. option_map row_value r ≡ row)

-- the call returns the options in an item's list, unless it has an error
abbrev pub ReturnsOptions : {E : Type 0} → Result (Vec ℕ) E → ProblemValue → List ℕ → ℕ → Type 0
ReturnsOptions result p c item = ReturnsItems result (list_of p c item)

-- the call returns the active items, each with the options left for it, unless it has an error
abbrev pub ReturnsRemaining : {E : Type 0} → Result (Vec (ℕ × Vec ℕ)) E → ProblemValue → List ℕ → Type 0
ReturnsRemaining result p c = ReturnsRows result (remaining_items p c)
