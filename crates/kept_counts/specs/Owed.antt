-- What a run owes at a state: the steps that are still to come for the paths whose X2 it has passed, if it passes no other X2.
-- A path that is passed takes eight steps in all, and four if it is a visit: so the steps of a stretch follow from its X2 states, its visits
-- and what is owed at both its ends.
--
-- Example: at X5 past the last option, after two choices, 13 are owed: eleven steps lead from there to Done if no other option is left, and
-- two are owed at Done.
use Rattle.std.specs.Prelude.{ℕ, ◌+◌, ◌*◌, length}
use Rattle.x_steps.specs.declared.state.Label.{Label}
use Rattle.x_steps.specs.declared.state.Label.TheVariants.{X1, X2, X3, X4, X5, X6, X7, X8, Done}
use Rattle.x_steps.specs.StateValue.{StateValue}

-- the steps that are owed at a step for its own path, and two more
abbrev pub owed_here : Label → ℕ
owed_here X1 = 1
owed_here X2 = 0
owed_here X3 = 7
owed_here X4 = 6
owed_here X5 = 5
owed_here X6 = 6
owed_here X7 = 4
owed_here X8 = 3
owed_here Done = 2

-- with four for each choice: to take it back, to go on to the next option, past the last one, and to leave that level
abbrev pub owed : StateValue → ℕ
owed s = 4 * length s.path + owed_here s.label
