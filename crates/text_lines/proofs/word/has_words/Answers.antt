use Rattle.std.proofs.Common.{not, ap, ◌∙◌}
use Rattle.text_lines.proofs.WordLemmas.{words_past_blanks}
use Rattle.text_lines.proofs.word.has_words.Goals as goal

pub returns : goal.returns
returns c = ap not (c.is_empty.ensures ∙ words_past_blanks c.args.said.now c.past_blanks-after.result.now c.past_blanks-after.ensures)
