use Rattle.poly_place.proofs.WalkLemmas.{rotation_count}
use Rattle.poly_place.proofs.placement.turn_count.Goals as goal

pub returns-in-Rotations : goal.returns-in-Rotations
returns-in-Rotations c = rotation_count c.args.group c.in-Rotations.is
