use Rattle.poly_distinct.proofs.CountedLemmas.{counted_same}
use Rattle.poly_distinct.proofs.laws.free_anchors_multiply.Goals as goal

pub returns : goal.returns
returns c = counted_same
