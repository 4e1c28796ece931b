use Rattle.std.proofs.Common.{◌≡◌, ◌++◌, map, take}
use Rattle.cover_problem.specs.Problem.{name_at}
use Rattle.text_lines.specs.Writing.{words_after}
use Rattle.debug_language.proofs.lines.write_names.Given as goal

abbrev pub invariant-loop-item : goal.invariant-loop-item
invariant-loop-item l = l.text.items ≡ l.fn.text.items ++ words_after (map (name_at l.problem.names) (take l.item-index l.items))
