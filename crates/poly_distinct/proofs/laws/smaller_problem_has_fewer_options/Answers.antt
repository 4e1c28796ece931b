use Rattle.poly_distinct.proofs.SmallerLemmas.{smaller_is, numbers_are}
use Rattle.poly_distinct.proofs.laws.smaller_problem_has_fewer_options.Goals as goal

pub returns : goal.returns
returns c = record { problem = λ p t ns z. smaller_is p z t ns; numbers = λ p t ns z. numbers_are p z t ns }
