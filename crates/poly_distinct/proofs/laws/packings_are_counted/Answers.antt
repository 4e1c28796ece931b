use Rattle.poly_distinct.proofs.CountedLemmas.{counts}
use Rattle.poly_distinct.proofs.laws.packings_are_counted.Goals as goal

pub returns : goal.returns
returns c = λ p group t ns all small z a allowed inverses whole apart covers d. counts p z group t a ns allowed inverses small covers d all whole apart
