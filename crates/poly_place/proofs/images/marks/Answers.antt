use Rattle.std.proofs.Common.{◌∙◌}
use Rattle.poly_cells.specs.CellTests.{has_cell}
use Rattle.poly_place.proofs.LoopLemmas.{has_turned, one_more}
use Rattle.poly_place.proofs.images.marks.Goals as goal

pub loop-cell-preserved : goal.loop-cell-preserved
loop-cell-preserved c =
    one_more (has_cell c.args.others.now) _ _ _ _ _ _ c.loop-cell-test.true c.cell-item.is (c.contains.ensures.value ∙ has_turned c.args.others.now c.cell-item.result) c.in_ok-push.ensures.items c.loop-cell.invariant
