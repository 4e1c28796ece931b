use Rattle.std.proofs.Common.{◌≡◌, ◌-◌, ◌∙◌, ap, sym, take, length}
use Rattle.lab_book.specs.Tile.{TileValue}
use Rattle.lab_book.specs.Tiling.{tile_at}
use Rattle.lab_book.proofs.IndexLemmas.{keeps_first, same_read}
use Rattle.lab_book.proofs.tiles.Tiles.retract.Goals as goal

pub invariant_of-self : goal.invariant_of-self
invariant_of-self c =
    let within = rw (← c.keep_place.ensures, ← c.self.view_is) at c.requires.within in
    let count = c.len.ensures ∙ ap length c.stretches-stretches.ensures
    ∙ ap (λ (t : TileValue). length t.stretches) (same_read _ _ _ _ within c.index.ensures c.index_mut.ensures.value) in
    keeps_first _ _ _ _ _ _ _ c.index_mut.result.now _ c.index.result.now _ _ _ c.self.invariant within c.index.ensures
    c.stretches-stretches.ensures c.take_behind.ensures.taken c.take_behind.ensures.levels c.index_mut.ensures.value
    (ap (λ (t : TileValue). t.id) c.retract.ensures) (ap (λ (t : TileValue). t.status) c.retract.ensures)
    (ap (λ (t : TileValue). t.stretches) c.retract.ensures ∙ (λ j. take (sym count j - 1) c.index_mut.result.now.stretches))
