use Rattle.cover_problem.proofs.TextLemmas.{read_is_text}
use Rattle.cover_problem.proofs.GrammarLemmas.{text_again}
use Rattle.cover_problem.proofs.laws.texts_are_read.Goals as goal

pub returns : goal.returns
returns c = λ text p. (read_is_text text p, text_again text p)
