-- A state as a value: the step about to be done, the choices so far, and the option that the step is at.
use Rattle.std.specs.Prelude.{ℕ, List, []}
use Rattle.x_steps.specs.declared.state.Label.{Label}
use Rattle.x_steps.specs.declared.state.Label.TheVariants.{X1, Done}
use Rattle.x_steps.specs.declared.state.Cursor.{Cursor}
use Rattle.x_steps.specs.declared.state.Cursor.TheVariants.{None}

-- where a search stands
pub record StateValue : Type 0 where
  pub label : Label
  pub path : List ℕ
  pub cursor : Cursor

-- the state with this label, this path and this cursor
abbrev pub at : Label → List ℕ → Cursor → StateValue
at label path cursor = record { label = label; path = path; cursor = cursor }

-- the beginning of the run
abbrev pub start : StateValue
start = at X1 [] None

-- the end of the run
abbrev pub done : StateValue
done = at Done [] None
