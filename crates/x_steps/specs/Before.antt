-- What comes before a state on the run.
--
-- Example: in the small problem X5 past 2 3 came before X7 with the path 2 3, and X4 with the path 2 3 before that X5,
-- since no option is left for item e (computed in proofs/StepExamples.antt).
use Rattle.std.specs.Prelude.{ℕ, Option, Some, List, [], ◌∷◌, ◌++◌, if◌then◌else◌}
use Rattle.std.specs.Prelude as prelude
use Rattle.shared_words.specs.Lists.{below, last_of}
use Rattle.cover_problem.specs.Problem.{ProblemValue}
use Rattle.x_steps.specs.declared.state.Label.{Label}
use Rattle.x_steps.specs.declared.state.Label.TheVariants.{X1, X2, X3, X4, X5, X6, X7, X8, Done}
use Rattle.x_steps.specs.declared.state.Cursor.{Cursor}
use Rattle.x_steps.specs.declared.state.Cursor.TheVariants as cursor
use Rattle.x_steps.specs.declared.state.Cursor.TheVariants.{At, Past}
use Rattle.x_steps.specs.StateValue.{StateValue, at}
use Rattle.x_steps.specs.Steps.{is_open, remaining_after, split_last}

-- before X2: the last option of the path was taken, or the run began
abbrev pub entered_from : Option (List ℕ × ℕ) → StateValue
entered_from prelude.None = at X1 [] cursor.None
entered_from (Some s) = at X5 s.0 (At s.1)

-- before X5: the option before was left, or the item was chosen
abbrev pub came_from : List ℕ → Option ℕ → StateValue
came_from path prelude.None = at X4 path cursor.None
came_from path (Some o) = at X6 path (At o)

-- the step table, backwards
abbrev pub prev_at : ProblemValue → Label → List ℕ → Cursor → StateValue
prev_at p X1 path k = at X1 path k
prev_at p X2 path k = entered_from (split_last path)
prev_at p X3 path k = at X2 path cursor.None
prev_at p X4 path k = at X3 path cursor.None
prev_at p X5 path (At o) = came_from path (below o (remaining_after p path))
prev_at p X5 path k = came_from path (last_of (remaining_after p path))
prev_at p X6 path (At o) = at X8 (path ++ o ∷ []) cursor.None
prev_at p X6 path k = at X6 path k
prev_at p X7 path k = at X5 path Past
prev_at p X8 path k = if is_open p path then at X7 path cursor.None else at X2 path cursor.None
prev_at p Done path k = at X8 [] cursor.None

-- the state before: of X1, X1
unfoldable pub prev : ProblemValue → StateValue → StateValue
prev p s = prev_at p s.label s.path s.cursor
