use Rattle.std.proofs.Common.{arith}
use Rattle.poly_place.proofs.ListingLemmas.{packing_more}
use Rattle.poly_place.proofs.listing.write_packings.Goals as goal

pub loop-k-preserved : goal.loop-k-preserved
loop-k-preserved c =
    let lt = c.loop-k-test.true in
    let len = c.len-k-end.ensures in
    packing_more c.args.compiled.now c.args.paths.now c.loop-k.k c.list.result.now c.args.text.now.items c.loop-k.text.items _ (omega (arith, lt, len)) c.list.ensures c.in_ok-write_packing.ensures c.loop-k.invariant
