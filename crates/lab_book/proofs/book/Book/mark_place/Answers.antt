use Rattle.lab_book.proofs.TilingLemmas.{tile_in}
use Rattle.lab_book.proofs.MarkLemmas.{tile_marks_meet}
use Rattle.lab_book.proofs.book.Book.mark_place.Goals as goal

pub mark_place-requires : goal.mark_place-requires
mark_place-requires c =
    rw c.tile-tile.ensures (tile_marks_meet _ _ (tile_in _ _ _ _ _ _ c.self.invariant.sound.tiling.tiles c.in-Some.ensures.within))
