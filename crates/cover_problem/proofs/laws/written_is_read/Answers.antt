use Rattle.cover_problem.proofs.WrittenLemmas.{written_again}
use Rattle.cover_problem.proofs.laws.written_is_read.Goals as goal

pub returns : goal.returns
returns c = written_again
