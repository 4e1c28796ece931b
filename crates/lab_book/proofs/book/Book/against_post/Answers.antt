use Rattle.lab_book.proofs.DoubtLemmas.{stale_doubt, beyond_doubt, fine_doubt, ends_fit, same_fits}
use Rattle.lab_book.proofs.book.Book.against_post.Goals as goal

pub returns-then-not-same-2 : goal.returns-then-not-same-2
returns-then-not-same-2 c =
    rw (← c.self.view_is) (stale_doubt _ _ _ _ _ _ c.if-not-same.false c.tile-tile.ensures _ _ _ c.same.ensures c.from.ensures.state
    c.mark.ensures _ c.if-not-same-2.true c.stale.ensures)

pub returns-in-Less : goal.returns-in-Less
returns-in-Less c =
    let within = rw (← c.self.view_is) at c.requires.within in
    let same = rw (← c.self.view_is) at c.requires.same in
    let fits = ends_fit _ _ _ _ _ c.self.invariant.sound.tiling within in
    let last = same_fits _ _ _ _ _ same c.if-not-same.false c.from.ensures.stretch in
    rw (← c.self.view_is)
    (beyond_doubt _ _ _ _ _ _ c.if-not-same.false c.tile-tile.ensures _ _ _ c.same.ensures c.from.ensures.state c.mark.ensures _ _ _
    c.end.ensures c.to.ensures fits last (c.run_order.ensures.less _)
    c.if-not-same-2.false c.in-Less.is)

pub returns-in_default : goal.returns-in_default
returns-in_default c =
    let within = rw (← c.self.view_is) at c.requires.within in
    let same = rw (← c.self.view_is) at c.requires.same in
    let fits = ends_fit _ _ _ _ _ c.self.invariant.sound.tiling within in
    let last = same_fits _ _ _ _ _ same c.if-not-same.false c.from.ensures.stretch in
    rw (← c.self.view_is)
    (fine_doubt _ _ _ _ _ _ c.if-not-same.false c.tile-tile.ensures _ _ _ c.same.ensures c.from.ensures.state c.mark.ensures _ _ _
    c.end.ensures c.to.ensures fits last (c.run_order.ensures.less _)
    c.if-not-same-2.false c.in_default.not-Less)
