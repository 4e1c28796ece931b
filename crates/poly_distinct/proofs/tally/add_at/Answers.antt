use Rattle.std.proofs.Common.{get_or, length, refl}
use Rattle.poly_distinct.proofs.StepLemmas.{read_at}
use Rattle.poly_distinct.proofs.CountsLemmas.{each_more, within_at}
use Rattle.poly_distinct.proofs.tally.add_at.Goals as goal

pub loop-place-preserved : goal.loop-place-preserved
loop-place-preserved c =
    let places = c.args.places.now in
    let i = c.loop-place.place-index in
    let x = get_or places i 0 in
    let lt = c.loop-place-test.true in
    let is = read_at places i x 0 lt refl in
    each_more places i x lt is c.requires.distinct c.args.counts.now c.loop-place.counts (within_at places i x (length c.args.counts.now) c.requires.within lt is) c.loop-place.invariant
