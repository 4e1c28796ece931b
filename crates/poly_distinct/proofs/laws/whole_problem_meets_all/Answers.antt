use Rattle.poly_distinct.proofs.SmallerLemmas.{all_meet}
use Rattle.poly_distinct.proofs.laws.whole_problem_meets_all.Goals as goal

pub returns : goal.returns
returns c = λ p group all z covers. all_meet p z group all covers
