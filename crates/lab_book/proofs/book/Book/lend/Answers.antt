use Rattle.std.proofs.Common.{ap, ◌∙◌}
use Rattle.lab_book.specs.Tile.{TileValue, mark_of}
use Rattle.lab_book.proofs.StepLemmas.{lend_keeps, lent_can_start}
use Rattle.lab_book.proofs.book.Book.lend.Goals as goal

pub invariant_of-self-2 : goal.invariant_of-self-2
invariant_of-self-2 c =
    let asked = rw (← c.self.view_is) at c.requires.outcome in
    let within = rw (← c.self.view_is) at c.requires.within in
    let free = rw (← c.self.view_is) at c.requires.free in
    let told = rw (← c.self.view_is) at c.in-Ok-lent_reply.ensures in
    lend_keeps _ _ _ _ _ _ _ c.self.invariant _ _ _ within _ _ _ asked free c.in-Ok-keep.ensures.kept c.len-index.ensures c.settle.ensures
    told c.add.ensures

pub returns-clause-can_start : goal.returns-clause-can_start
returns-clause-can_start c =
    let within = rw (← c.self.view_is) at c.requires.within in
    let branch = c.in-Ok.ensures.branch ∙ ap (λ (t : TileValue). t.branch) c.tile.ensures in
    let mark = c.in-Ok.ensures.mark ∙ ap mark_of c.tile.ensures in
    rw (← c.self.view_is) (lent_can_start _ _ _ _ _ _ _ c.self.invariant.sound.tiling within branch mark)
