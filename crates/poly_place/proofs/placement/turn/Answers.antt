use Rattle.poly_place.proofs.WalkLemmas.{rotation_low, symmetry_at}
use Rattle.poly_place.proofs.placement.turn.Goals as goal

pub new-requires : goal.new-requires
new-requires c = rotation_low c.args.group c.args.r c.in-Rotations.is c.requires

pub returns-in-Symmetries : goal.returns-in-Symmetries
returns-in-Symmetries c = symmetry_at c.args.group c.args.r c.new-in-Symmetries.result c.in-Symmetries.is c.requires c.new-in-Symmetries.ensures
