-- Whether two states are the same, as a test: `cursor_number` tells cursors apart, and `same_state` states.
--
-- Example: X5 at option 5 with the path 4 is the same as itself, and not the same as X5 past all options there. proofs/BookExamples.antt
-- computes it.
use Rattle.std.specs.Prelude.{ℕ, ◌+◌, ◌==◌, ◌&&◌, Bool}
use Rattle.std.specs.Str.{bytes_eq}
use Rattle.x_steps.specs.declared.state.Cursor.{Cursor}
use Rattle.x_steps.specs.declared.state.Cursor.TheVariants as cursor
use Rattle.x_steps.specs.declared.state.Cursor.TheVariants.{At, Past}
use Rattle.x_steps.specs.StateValue.{StateValue}
use Rattle.x_codes.specs.StateCode.{label_number}

-- a number for each option that a step can be at
abbrev pub cursor_number : Cursor → ℕ
cursor_number cursor.None = 0
cursor_number Past = 1
cursor_number (At o) = o + 2

-- whether two states are the same: the same step, choices and cursor
unfoldable pub same_state : StateValue → StateValue → Bool
same_state s t = (label_number s.label == label_number t.label) && bytes_eq s.path t.path &&
    (cursor_number s.cursor == cursor_number t.cursor)
