use Rattle.std.proofs.Common.{map}
use Rattle.text_lines.proofs.WritingLemmas.{line_written}
use Rattle.text_lines.proofs.writing.write_numbers_line.Goals as goal

pub returns : goal.returns
returns g c = line_written c.args.text.now.items c.args.key.now _ _ _ (map g.N.Integer.text c.args.numbers.now) (rw c.as_bytes.ensures.value at c.in_ok-extend_from_slice.ensures.items) c.in_ok-write_numbers.ensures c.in_ok-push.ensures.items
