use Rattle.poly_distinct.proofs.MirrorLemmas.{mirrors_from}
use Rattle.poly_distinct.proofs.laws.mirrors_are_tested.Goals as goal

pub returns : goal.returns
returns c = λ p s z h. mirrors_from p z s h
