use Rattle.poly_place.proofs.VolumeLemmas.{volume_forces}
use Rattle.poly_place.proofs.laws.volume_forces.Goals as goal

pub returns : goal.returns
returns c = volume_forces
