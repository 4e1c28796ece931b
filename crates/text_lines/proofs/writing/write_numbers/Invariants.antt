use Rattle.std.proofs.Common.{◌≡◌, ◌++◌, map, take}
use Rattle.text_lines.specs.Writing.{words_after}
use Rattle.text_lines.proofs.writing.write_numbers.Given as goal

abbrev pub invariant-loop-number : goal.invariant-loop-number
invariant-loop-number g l = l.text.items ≡ l.fn.text.items ++ words_after (map g.N.Integer.text (take l.number-index l.numbers))
