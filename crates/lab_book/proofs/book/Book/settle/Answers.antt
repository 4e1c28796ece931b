use Rattle.std.proofs.Common.{ap, ◌∙◌}
use Rattle.lab_book.specs.Tile.{TileValue}
use Rattle.lab_book.proofs.StepLemmas.{settle_keeps}
use Rattle.lab_book.proofs.book.Book.settle.Goals as goal

pub invariant_of-self : goal.invariant_of-self
invariant_of-self c =
    let asked = rw (← c.self.view_is) at c.requires.outcome in
    let within = rw (← c.self.view_is) at c.requires.within in
    let leased = rw (← c.self.view_is) at c.requires.leased in
    let stands = rw (← c.self.view_is) at c.requires.stands in
    let stop = c.stop-stop.ensures ∙ ap (λ (t : TileValue). t.stop) c.tile.ensures in
    settle_keeps _ _ _ _ _ c.self.inside.history _ c.self.invariant _ _ _ within _ _ _ asked leased c.requires.ends stands stop
    c.settle.ensures c.add.ensures
