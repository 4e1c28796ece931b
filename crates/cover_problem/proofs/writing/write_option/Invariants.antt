use Rattle.std.proofs.Common.{◌≡◌, ◌++◌, map, take, codes}
use Rattle.text_lines.specs.Writing.{words_after}
use Rattle.cover_problem.specs.Problem.{name_at}
use Rattle.cover_problem.proofs.writing.write_option.Given as goal

abbrev pub invariant-loop-item : goal.invariant-loop-item
invariant-loop-item l = l.text.items ≡ (l.fn.text.items ++ codes "option") ++ words_after (map (name_at (map (λ n. n.bytes) l.names)) (take l.item-index l.option))
