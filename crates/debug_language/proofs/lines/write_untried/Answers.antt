use Rattle.std.proofs.Common.{codes, map, decimal}
use Rattle.debug_language.proofs.WriterLemmas.{word_line}
use Rattle.debug_language.proofs.lines.write_untried.Goals as goal

pub returns : goal.returns
returns c =
    word_line c.args.text.now.items (codes "untried") (decimal c.args.level) _ _ _ _ (map decimal c.args.options.now)
    c.in_ok-extend_from_slice.ensures.items c.in_ok-write_number.ensures c.in_ok-write_numbers.ensures c.in_ok-push.ensures.items
