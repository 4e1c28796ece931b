use Rattle.std.proofs.Common.{ap}
use Rattle.lab_book.specs.Tile.{TileValue}
use Rattle.lab_book.proofs.IndexLemmas.{keeps_first}
use Rattle.lab_book.proofs.tiles.Tiles.put_back.Goals as goal

pub invariant_of-self : goal.invariant_of-self
invariant_of-self c =
    let within = rw (← c.keep_place.ensures, ← c.self.view_is) at c.requires.within in
    keeps_first _ _ _ _ _ _ _ c.index_mut.result.now _ c.index.result.now _ _ _ c.self.invariant within c.index.ensures
    c.stretches.ensures c.take_behind.ensures.taken c.take_behind.ensures.levels c.index_mut.ensures.value
    (ap (λ (t : TileValue). t.id) c.put_back.ensures) (ap (λ (t : TileValue). t.status) c.put_back.ensures)
    (ap (λ (t : TileValue). t.stretches) c.put_back.ensures)
