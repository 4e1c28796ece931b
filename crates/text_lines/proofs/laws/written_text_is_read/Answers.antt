use Rattle.text_lines.proofs.WritingLemmas.{written_said, written_plain}
use Rattle.text_lines.proofs.laws.written_text_is_read.Goals as goal

pub returns-clause-words : goal.returns-clause-words
returns-clause-words c = written_said

pub returns-clause-plain : goal.returns-clause-plain
returns-clause-plain c = written_plain
