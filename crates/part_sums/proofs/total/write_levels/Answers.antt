use Rattle.std.proofs.Common.{codes, map, arith}
use Rattle.cover_counts.specs.Digits.{numeral}
use Rattle.text_lines.proofs.WritingLemmas.{line_written}
use Rattle.part_sums.proofs.NumberLemmas.{some_levels}
use Rattle.part_sums.proofs.total.write_levels.Goals as goal

pub returns : goal.returns
returns c =
    rw (some_levels c.args.levels.now (grind arith))
    (line_written c.args.text.now.items (codes "levels") _ _ _ (map numeral c.args.levels.now) c.in_ok-extend_from_slice.ensures.items c.in_ok-write_naturals.ensures c.in_ok-push.ensures.items)
