use Rattle.byte_streams.proofs.laws.no_other_bytes_came.Goals as goal
use Rattle.byte_streams.proofs.LawLemmas.{one_list}

pub returns : goal.returns
returns c = λ n old new before left came a b e more made. one_list n old new before left came made.0.0 a b e more made.0.1 made.0.2
