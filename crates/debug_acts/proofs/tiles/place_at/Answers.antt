use Rattle.std.proofs.Common.{sym, ap, ◌∙◌}
use Rattle.debug_acts.specs.Tiles.{given_cut, is_begun_at}
use Rattle.debug_acts.proofs.PlaceLemmas.{tile_read, placed, not_placed, none_placed}
use Rattle.debug_acts.proofs.tiles.place_at.Goals as goal
use Rattle.debug_acts.proofs.tiles.place_at.Goals.{else-place-tiles-via-then-place-tiles+else-is_begun_at, else-place-tiles-via-else-place-tiles}

pub returns-then-is_begun_at-clause-place : goal.returns-then-is_begun_at-clause-place
returns-then-is_begun_at-clause-place c =
    let read = tile_read c.index-tiles-place.result c.tiles-tiles.result.now c.args.book.now.tiles c.seek-place.result c.tiles-tiles.ensures.tiles c.if-place-tiles.true c.index-tiles-place.is in
    sym (placed (given_cut c.args.lo) c.args.book.now.tiles c.seek-place.result c.seek-place.ensures (rw (← c.tiles-tiles.ensures.tiles) c.if-place-tiles.true) (ap (is_begun_at (given_cut c.args.lo)) (sym read) ∙ sym c.if-is_begun_at.ensures))

pub returns-else-place-tiles-clause-place : goal.returns-else-place-tiles-clause-place
returns-else-place-tiles-clause-place c =
    elim c.else-place-tiles.branch [
      | else-place-tiles-via-then-place-tiles+else-is_begun_at w ↦
          let read = tile_read w.index-tiles-place.result c.tiles-tiles.result.now c.args.book.now.tiles c.seek-place.result c.tiles-tiles.ensures.tiles w.if-place-tiles.true w.index-tiles-place.is in
          sym (not_placed (given_cut c.args.lo) c.args.book.now.tiles c.seek-place.result c.seek-place.ensures (ap (is_begun_at (given_cut c.args.lo)) (sym read) ∙ sym w.if-is_begun_at.ensures))
      | else-place-tiles-via-else-place-tiles w ↦ sym (none_placed (given_cut c.args.lo) c.args.book.now.tiles c.seek-place.result c.seek-place.ensures (rw (← c.tiles-tiles.ensures.tiles) w.if-place-tiles.false))
    ]
