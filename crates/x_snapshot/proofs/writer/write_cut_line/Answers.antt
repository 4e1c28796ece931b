use Rattle.std.specs.Prelude.{option_copied}
use Rattle.x_texts.specs.Words.{cut_words}
use Rattle.text_lines.proofs.WritingLemmas.{line_written}
use Rattle.x_snapshot.proofs.writer.write_cut_line.Goals as goal

pub returns : goal.returns
returns c =
    line_written c.args.text.now.items c.args.key.now _ _ _ (cut_words c.args.none.now (option_copied c.args.path))
    (rw c.as_bytes.ensures.value at c.in_ok-extend_from_slice.ensures.items) c.in_ok-write_cut.ensures c.in_ok-push.ensures.items
