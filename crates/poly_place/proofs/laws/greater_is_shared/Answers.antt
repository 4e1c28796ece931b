use Rattle.poly_place.proofs.TurnLemmas.{shared_exactly}
use Rattle.poly_place.proofs.laws.greater_is_shared.Goals as goal

pub returns : goal.returns
returns c = shared_exactly
