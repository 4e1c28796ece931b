use Rattle.std.proofs.Common.{◌∷◌, ◌++◌, codes}
use Rattle.std.specs.Prelude.{option_copied}
use Rattle.x_texts.specs.Words.{cut_words}
use Rattle.debug_language.specs.Replies.{standing_word}
use Rattle.debug_language.proofs.WriterLemmas.{standing_written}
use Rattle.debug_language.proofs.lines.write_standing.Goals as goal

pub returns : goal.returns
returns c =
    standing_written c.args.text.now.items (codes "branch") (standing_word c.args.standing) _ _ _ (cut_words (codes "start") (option_copied c.args.lo) ++ codes "to" ∷ cut_words (codes "end") (option_copied c.args.hi))
    c.in_ok-write_cuts.ensures (rw c.word.ensures at c.in_ok-write_word.ensures) c.in_ok-push.ensures.items
