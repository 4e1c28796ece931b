use Rattle.poly_distinct.proofs.SmallerLemmas.{meets_all}
use Rattle.poly_distinct.proofs.laws.smaller_problem_meets_all.Goals as goal

pub returns : goal.returns
returns c = λ p group t ns small z a allowed covers. meets_all p z t ns group a allowed small covers
