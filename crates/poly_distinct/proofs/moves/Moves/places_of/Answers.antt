use Rattle.poly_place.proofs.WalkLemmas.{item_in}
use Rattle.poly_distinct.proofs.moves.Moves.places_of.Goals as goal

pub place_of-requires : goal.place_of-requires
place_of-requires c = c.requires c.cell-item.result (item_in _ _ _ c.loop-cell-test.true c.cell-item.is)
