use Rattle.poly_distinct.proofs.NewLemmas.{distinct_part}
use Rattle.poly_distinct.proofs.laws.distinct_paths_keep_order.Goals as goal

pub returns : goal.returns
returns c = distinct_part
