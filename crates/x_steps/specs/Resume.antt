-- A machine on its way down a path, and up one.
use Rattle.std.specs.Prelude.{◌≡◌, ◌⊎◌, Bool, List, [], ◌∷◌, ◌++◌, length, ℕ}
use Rattle.shared_words.specs.Lists.{above}
use Rattle.cover_problem.specs.Problem.{ProblemValue}
use Rattle.cover_problem.specs.Path.{covered_by}
use Rattle.x_steps.specs.declared.state.Label.{Label}
use Rattle.x_steps.specs.declared.state.Label.TheVariants.{X2, X5}
use Rattle.x_steps.specs.declared.state.Cursor.{Cursor}
use Rattle.x_steps.specs.declared.state.Cursor.TheVariants.{None, Past}
use Rattle.x_steps.specs.StateValue.{StateValue, at}
use Rattle.x_steps.specs.Steps.{Fits, remaining_after, next_cursor}
use Rattle.x_steps.specs.Machine.{MachineValue}
use Rattle.x_steps.specs.Flags.{AreFlagsOf}

-- a problem with a state
abbrev pub position : ProblemValue → StateValue → MachineValue
position p s = record { problem = p; state = s }

-- the machine at another state of its problem
abbrev pub standing_at : MachineValue → StateValue → MachineValue
standing_at m s = position m.problem s

-- the machine at this step, with its path
abbrev pub at_step : MachineValue → Label → Cursor → MachineValue
at_step m label cursor = standing_at m (at label m.state.path cursor)

-- the search has this step with the machine's path
abbrev pub HasStep : MachineValue → Label → Cursor → Type 0
HasStep m label cursor = Fits m.problem (at label m.state.path cursor)

-- the state after the item chosen after a path is covered: at X5, at the first option left for it, or past the last
abbrev pub opened : ProblemValue → List ℕ → StateValue
opened p path = at X5 path (next_cursor (above 0 (remaining_after p path)))

-- the machine is at X2 with this path, and what the path covers is flagged
pub record IsDown (p : ProblemValue) (path : List ℕ) (m : MachineValue) (flags : List Bool) : Type 0 where
  pub here : m ≡ position p (at X2 path None)
  pub flagged : AreFlagsOf flags (length p.names) (covered_by p path)

-- the machine went down by this option, which is now the path's last
abbrev pub GoesDown : MachineValue → ℕ → MachineValue → List Bool → Type 0
GoesDown old option new flags = IsDown old.problem (old.state.path ++ option ∷ []) new flags

-- the machine stands at X2 with one choice more
abbrev pub longer_by : MachineValue → ℕ → MachineValue
longer_by m o = standing_at m (at X2 (m.state.path ++ o ∷ []) None)

-- the machine is on this path: at X2, or past the options of the item that is chosen after it, which then is covered
pub record IsOnPath (p : ProblemValue) (path : List ℕ) (m : MachineValue) : Type 0 where
  pub here : (m ≡ position p (at X2 path None)) ⊎ (m ≡ position p (at X5 path Past))
  pub fits : Fits p m.state

-- the machine is on its own path
abbrev pub IsOnItsPath : MachineValue → Type 0
IsOnItsPath m = IsOnPath m.problem m.state.path m
