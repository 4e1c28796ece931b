use Rattle.poly_place.proofs.RangeLemmas.{are_sums}
use Rattle.poly_place.proofs.laws.ranges_are_sums.Goals as goal

pub returns : goal.returns
returns c = are_sums
