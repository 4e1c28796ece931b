use Rattle.std.proofs.Common.{arith}
use Rattle.poly_cells.proofs.SetLemmas.{in_at}
use Rattle.poly_distinct.proofs.StayLemmas.{stays_end, stays_same}
use Rattle.poly_distinct.proofs.moves.stays.Goals as goal

pub bounds-carrier-place : goal.bounds-carrier-place
bounds-carrier-place c = c.requires _ (in_at c.args.places.now c.loop-place.place-index 0 c.loop-place-test.true)

pub offset_bounds-carrier-place : goal.offset_bounds-carrier-place
offset_bounds-carrier-place c =
    let below = c.requires _ (in_at c.args.places.now c.loop-place.place-index 0 c.loop-place-test.true) in
    grind (arith, below, c.type_inv.carrier)

pub returns : goal.returns
returns c h = stays_same c.args.carrier.now c.args.places.now (c.loop-place.invariant (stays_end c.args.carrier.now c.args.places.now c.loop-place.place-index c.loop-place.next c.loop-place-test.false))
