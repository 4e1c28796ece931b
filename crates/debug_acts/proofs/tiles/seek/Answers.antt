use Rattle.std.proofs.Common.{◌<◌, ◌+◌, ◌-◌, ◌/◌, length, arith}
use Rattle.debug_acts.specs.Tiles.{given_cut}
use Rattle.debug_acts.proofs.PlaceLemmas.{tile_read, begins_after, begins_by}
use Rattle.debug_acts.proofs.tiles.seek.Goals as goal

pub seeking-preserved-then-begins_before : goal.seeking-preserved-then-begins_before
seeking-preserved-then-begins_before c =
    let middle = c.seeking.low + (c.seeking.high - c.seeking.low) / 2 in
    let within : middle < length c.args.book.now.tiles = omega (arith, c.seeking-test.true, c.seeking.invariant.0) in
    let read = tile_read c.index-tiles-middle.result c.tiles-tiles.result.now c.args.book.now.tiles middle c.tiles-tiles.ensures.tiles (rw c.tiles-tiles.ensures.tiles within) c.index-tiles-middle.is in
    let before = rw c.branch-tiles.ensures at c.if-begins_before.ensures in
    (c.seeking.invariant.0, λ i begins. let after = begins_after c.args.book.now c.tiles-tiles.ensures.tiling (given_cut c.args.lo) middle within i begins c.index-tiles-middle.result read before in (omega (arith, after), (c.seeking.invariant.1 i begins).1))

pub seeking-preserved : goal.seeking-preserved
seeking-preserved c =
    let middle = c.seeking.low + (c.seeking.high - c.seeking.low) / 2 in
    let within : middle < length c.args.book.now.tiles = omega (arith, c.seeking-test.true, c.seeking.invariant.0) in
    let read = tile_read c.index-tiles-middle.result c.tiles-tiles.result.now c.args.book.now.tiles middle c.tiles-tiles.ensures.tiles (rw c.tiles-tiles.ensures.tiles within) c.index-tiles-middle.is in
    let before = rw c.branch-tiles.ensures at c.if-begins_before.ensures in
    (omega (arith, within), λ i begins. ((c.seeking.invariant.1 i begins).0, begins_by c.args.book.now c.tiles-tiles.ensures.tiling (given_cut c.args.lo) middle within i begins c.index-tiles-middle.result read before))
