use Rattle.std.proofs.Common.{codes, map, decimal, arith}
use Rattle.text_lines.proofs.WritingLemmas.{line_written}
use Rattle.x_texts.proofs.WordLemmas.{levels_some}
use Rattle.x_texts.proofs.line.write_levels.Goals as goal

pub returns : goal.returns
returns c =
    rw (levels_some c.args.counts.now (grind arith))
    (line_written c.args.text.now.items (codes "levels") _ _ _ (map decimal c.args.counts.now) c.in_ok-extend_from_slice.ensures.items c.in_ok-write_numbers.ensures c.in_ok-push.ensures.items)
