use Rattle.poly_distinct.proofs.ImageCountLemmas.{one_place, images_next}
use Rattle.poly_distinct.proofs.moves.all_carried.Goals as goal

pub add_carried-requires : goal.add_carried-requires
add_carried-requires c = one_place c.args.fixed c.args.places.now c.args.carriers.now c.loop-carrier.carrier-index _ _ c.requires c.loop-carrier-test.true c.carrier-item.is c.as_slice.ensures.value

pub loop-carrier-preserved : goal.loop-carrier-preserved
loop-carrier-preserved c =
    images_next c.args.fixed c.args.places.now c.args.carriers.now c.loop-carrier.carrier-index _ _ _ _ c.loop-carrier-test.true c.carrier-item.is c.as_slice.ensures.value c.loop-carrier.invariant c.in_ok-add_carried.ensures
