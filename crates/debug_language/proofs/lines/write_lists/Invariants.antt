use Rattle.std.proofs.Common.{◌≡◌, ◌++◌, map, take}
use Rattle.text_lines.specs.Writing.{text_of}
use Rattle.x_steps.specs.StateView.{row_values}
use Rattle.debug_language.specs.Replies.{list_words}
use Rattle.debug_language.proofs.lines.write_lists.Given as goal

-- the lines of the rows so far are written
abbrev pub invariant-loop-row : goal.invariant-loop-row
invariant-loop-row l = l.text.items ≡ l.fn.text.items ++ text_of (map (list_words l.problem.names l.listed) (row_values (take l.row-index l.rows)))
