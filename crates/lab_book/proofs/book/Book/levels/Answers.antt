use Rattle.std.proofs.Common.{◌∙◌, ap}
use Rattle.x_steps.specs.Levels.{without_last_zeros}
use Rattle.lab_book.proofs.SumLemmas.{closed_levels}
use Rattle.lab_book.proofs.TotalsLemmas.{levels_are}
use Rattle.lab_book.proofs.book.Book.levels.Goals as goal

pub returns-clause-levels : goal.returns-clause-levels
returns-clause-levels c = rw (← c.self.view_is)
    (c.drop_last_zeros.ensures ∙ ap without_last_zeros c.in_ok-levels.ensures.items
    ∙ levels_are _ _ _ _ c.self.invariant.sound.tiling _ c.levels.ensures)

pub returns-clause-whole : goal.returns-clause-whole
returns-clause-whole c = rw (← c.self.view_is) (λ closed.
    c.drop_last_zeros.ensures ∙ ap without_last_zeros c.in_ok-levels.ensures.items
    ∙ levels_are _ _ _ _ c.self.invariant.sound.tiling _ c.levels.ensures ∙ closed_levels _ _ _ _ c.self.invariant.sound.tiling closed)
