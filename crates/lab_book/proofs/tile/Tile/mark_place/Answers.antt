use Rattle.lab_book.proofs.tile.Tile.mark_place.Goals as goal

pub mark_place-requires : goal.mark_place-requires
mark_place-requires c = rw (c.first_mark.ensures, c.stretches.ensures) c.requires
