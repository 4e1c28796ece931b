use Rattle.std.proofs.Common.{◌∙◌}
use Rattle.lab_book.specs.Totals.{of_steps}
use Rattle.lab_book.proofs.tiles.Tiles.steps.Goals as goal

pub returns : goal.returns
returns c = rw (← c.self.view_is) (c.steps.ensures ∙ c.self.invariant.totals_are.sums of_steps)
