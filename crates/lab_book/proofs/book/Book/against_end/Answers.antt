use Rattle.std.proofs.Common.{sym, ◌∙◌}
use Rattle.lab_book.proofs.DoubtLemmas.{end_fine, end_doubt}
use Rattle.lab_book.proofs.book.Book.against_end.Goals as goal

pub returns-then-same-clause-fault : goal.returns-then-same-clause-fault
returns-then-same-clause-fault c =
    rw (← c.self.view_is) (end_fine _ _ c.tile-tile.ensures _ _ _ c.same.ensures c.mark.ensures c.end.ensures c.args.ending
    (sym c.is_at_mark.ensures ∙ c.if-is_at_mark.false) c.if-same.true)

pub returns-else-same-clause-fault : goal.returns-else-same-clause-fault
returns-else-same-clause-fault c =
    rw (← c.self.view_is) (end_doubt _ _ c.tile-tile.ensures _ _ _ c.same.ensures c.mark.ensures c.end.ensures c.args.ending
    (sym c.is_at_mark.ensures ∙ c.if-is_at_mark.false) c.if-same.false)
