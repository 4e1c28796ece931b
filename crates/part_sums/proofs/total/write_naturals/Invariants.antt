use Rattle.std.proofs.Common.{◌≡◌, ◌++◌, map, take}
use Rattle.text_lines.specs.Writing.{words_after}
use Rattle.cover_counts.specs.Digits.{numeral}
use Rattle.part_sums.proofs.total.write_naturals.Given as goal

abbrev pub invariant-loop-number : goal.invariant-loop-number
invariant-loop-number l = l.text.items ≡ l.fn.text.items ++ words_after (map numeral (take l.number-index l.numbers))
