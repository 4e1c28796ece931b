use Rattle.poly_distinct.proofs.SmallerLemmas.{numbers_rise}
use Rattle.poly_distinct.proofs.laws.left_numbers_rise.Goals as goal

pub returns : goal.returns
returns c = numbers_rise
