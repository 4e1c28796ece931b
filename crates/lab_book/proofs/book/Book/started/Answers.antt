use Rattle.std.proofs.Common.{[], ◌∷◌, ap, ap₂, ◌∙◌}
use Rattle.lab_book.specs.Tile.{TileValue}
use Rattle.lab_book.specs.Book.{whole_tile}
use Rattle.lab_book.proofs.StepLemmas.{opened_keeps}
use Rattle.lab_book.proofs.book.Book.started.Goals as goal

pub invariant_of-result : goal.invariant_of-result
invariant_of-result c =
    let tile = c.in_ok-tiles.ensures ∙ ap (λ (t : TileValue). t ∷ [])
    (c.in_ok-tile.ensures ∙ ap₂ whole_tile c.in_ok-copy.ensures (c.in_ok-begin.ensures ∙ c.in_ok-first.ensures)) in
    opened_keeps _ _ _ _ _ _ _ c.requires c.is_cut.ensures c.is_cut-2.ensures c.in_ok-whole.ensures c.in_ok-first.ensures tile c.new.ensures
