use Rattle.lab_pool_laws.proofs.NoteLemmas.{parked_then}
use Rattle.lab_pool_laws.proofs.laws.a_parked_tile_is_not_closed.Goals as goal

pub returns : goal.returns
returns c = parked_then
