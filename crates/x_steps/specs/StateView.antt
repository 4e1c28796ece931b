-- The values of a `State` and of rows of numbers.
use Rattle.std.specs.Prelude.{ℕ, List, map}
use Rattle.std.specs.Global.{Vec}
use Rattle.cover_problem.specs.Problem.{ProblemValue}
use Rattle.x_steps.specs.declared.state.State.{State}
use Rattle.x_steps.specs.StateValue.{StateValue, at}
use Rattle.x_steps.specs.Steps.{Fits}

-- the value of a state, without where its path lies in memory
abbrev pub state_value : State → StateValue
state_value s = at s.label s.path.items s.cursor

-- the search of a problem has this state
abbrev pub IsState : ProblemValue → State → Type 0
IsState p s = Fits p (state_value s)

-- an item and its options, without where they lie in memory
abbrev pub row_value : ℕ × Vec ℕ → ℕ × List ℕ
row_value row = (row.0, row.1.items)

-- such rows
abbrev pub row_values : List (ℕ × Vec ℕ) → List (ℕ × List ℕ)
row_values rows = map row_value rows
