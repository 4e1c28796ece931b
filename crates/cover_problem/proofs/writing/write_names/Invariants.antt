use Rattle.std.proofs.Common.{◌≡◌, ◌++◌, map, take}
use Rattle.text_lines.specs.Writing.{words_after}
use Rattle.cover_problem.proofs.writing.write_names.Given as goal

abbrev pub invariant-loop-name : goal.invariant-loop-name
invariant-loop-name l = l.text.items ≡ (l.fn.text.items ++ l.key) ++ words_after (map (λ n. n.bytes) (take l.name-index l.names))
