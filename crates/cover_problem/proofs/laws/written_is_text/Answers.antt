use Rattle.cover_problem.proofs.WrittenLemmas.{written_is_text}
use Rattle.cover_problem.proofs.laws.written_is_text.Goals as goal

pub returns : goal.returns
returns c = written_is_text
