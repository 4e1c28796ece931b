use Rattle.poly_place.proofs.SwapLemmas.{count_swaps_once}
use Rattle.poly_place.proofs.laws.swaps_count_once.Goals as goal

pub returns : goal.returns
returns c = count_swaps_once
