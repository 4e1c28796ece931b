use Rattle.std.proofs.Common.{◌∙◌, ap}
use Rattle.lab_book.specs.Tile.{TileValue}
use Rattle.lab_book.specs.Tiling.{tile_at}
use Rattle.lab_book.specs.Book.{retract_fault}
use Rattle.lab_book.proofs.BookLemmas.{judged_ok, found_more}
use Rattle.lab_book.proofs.DoubtLemmas.{judged_fine, retract_fine, not_empty}
use Rattle.lab_book.proofs.book.Book.retract_place.Goals as goal

pub returns-else-is_empty-clause-place : goal.returns-else-is_empty-clause-place
returns-else-is_empty-clause-place c =
    let found = found_more _ c.args.lease retract_fault _ (judged_ok _ _ _ c.leased_place.ensures.place c.in-Ok.is) in
    let here = c.stretches.ensures ∙ ap (λ (t : TileValue). t.stretches) c.tile.ensures in
    rw (← c.self.view_is) (judged_fine _ _ _ found
    (retract_fine (tile_at c.self.inside.tiles c.in-Ok.i) (not_empty _ _ _ here c.is_empty.ensures c.if-is_empty.false)))
