use Rattle.std.proofs.Common.{◌∙◌}
use Rattle.lab_book.proofs.TotalsLemmas.{visited_is}
use Rattle.lab_book.proofs.tiles.Tiles.visited.Goals as goal

pub returns : goal.returns
returns c = rw (← c.self.view_is) (c.visited.ensures ∙ visited_is _ _ c.self.invariant.totals_are)
