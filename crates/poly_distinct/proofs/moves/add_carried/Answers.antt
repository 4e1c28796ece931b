use Rattle.std.proofs.Common.{inl, refl}
use Rattle.poly_distinct.proofs.moves.add_carried.Goals as goal

pub leaves-requires : goal.leaves-requires
leaves-requires c k e = c.requires.one c.args.carrier.now (inl refl) k e

pub carried-requires : goal.carried-requires
carried-requires c = c.requires.each c.args.carrier.now (inl refl)
