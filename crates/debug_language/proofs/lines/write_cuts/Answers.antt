use Rattle.std.proofs.Common.{codes}
use Rattle.std.specs.Prelude.{option_copied}
use Rattle.x_texts.specs.Words.{cut_words}
use Rattle.debug_language.proofs.WriterLemmas.{cuts_written}
use Rattle.debug_language.proofs.lines.write_cuts.Goals as goal

pub returns : goal.returns
returns c =
    cuts_written c.args.text.now.items (codes "branch") _ _ _ _ (codes "to") (cut_words (codes "start") (option_copied c.args.lo)) (cut_words (codes "end") (option_copied c.args.hi))
    c.in_ok-extend_from_slice.ensures.items c.in_ok-write_cut.ensures c.in_ok-write_word.ensures c.in_ok-write_cut-2.ensures
