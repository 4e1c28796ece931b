use Rattle.std.proofs.Common.{[], ◌∙◌, sym, subst}
use Rattle.x_steps.specs.Order.{PathsRise}
use Rattle.lab_book.specs.Tile.{TileValue}
use Rattle.lab_book.specs.Posted.{stretch_visits}
use Rattle.lab_book.proofs.PostedLemmas.{visits_all, closed_visits}
use Rattle.lab_book.proofs.RiseLemmas.{posted_rise}
use Rattle.lab_book.proofs.book.Book.visits.Goals as goal

pub returns-clause-whole : goal.returns-clause-whole
returns-clause-whole c =
    let past = rw c.list-tile-items.ensures.tiles at c.loop-tile-test.false in
    let walked = rw (← c.self.view_is) at c.loop-tile.invariant in
    let all = visits_all (λ (t : TileValue). stretch_visits t.stretches) c.self.inside.tiles c.loop-tile.tile-index []
    c.loop-tile.visits past walked in
    rw (← c.self.view_is) (λ closed. all ∙ closed_visits c.self.inside.problem.now c.self.inside.branch.lo c.self.inside.first
    c.self.inside.tiles c.self.inside.branch.hi c.self.invariant.sound.tiling.tiles closed)

pub returns-clause-rise : goal.returns-clause-rise
returns-clause-rise c =
    let past = rw c.list-tile-items.ensures.tiles at c.loop-tile-test.false in
    let walked = rw (← c.self.view_is) at c.loop-tile.invariant in
    let all = visits_all (λ (t : TileValue). stretch_visits t.stretches) c.self.inside.tiles c.loop-tile.tile-index []
    c.loop-tile.visits past walked in
    subst PathsRise (sym all) (posted_rise _ _ _ _ _ c.self.invariant.sound.tiling.tiles)
