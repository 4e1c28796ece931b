use Rattle.text_lines.proofs.PlainLemmas.{plain_lines_say_words}
use Rattle.text_lines.proofs.laws.plain_lines_say_words.Goals as goal

pub returns : goal.returns
returns c = plain_lines_say_words
