use Rattle.std.proofs.Common.{ap, ◌∙◌}
use Rattle.lab_book.specs.Tile.{is_waiting, is_leased}
use Rattle.lab_book.proofs.IndexLemmas.{keeps_settled}
use Rattle.lab_book.proofs.tiles.Tiles.settle.Goals as goal

pub invariant_of-self : goal.invariant_of-self
invariant_of-self c =
    let within = rw (← c.keep_place.ensures, ← c.self.view_is) at c.requires in
    let waited = c.is_waiting.ensures ∙ ap is_waiting c.status-old.ensures in
    let lent = c.is_leased.ensures ∙ ap is_leased c.status-old.ensures in
    keeps_settled _ _ _ _ _ _ _ _ _ c.index.result.now _ _ _ _ _ _ _ _ _ c.self.invariant within c.index.ensures c.index_mut.ensures.value
    c.settle.ensures
    waited c.is_waiting-2.ensures c.recounted-self-inside.ensures lent c.is_leased-2.ensures c.recounted-self-inside-2.ensures
    (rw c.is_waiting-3.ensures at c.waits_from-self-inside.ensures.passed) (rw c.is_waiting-3.ensures at c.waits_from-self-inside.ensures.waits)
