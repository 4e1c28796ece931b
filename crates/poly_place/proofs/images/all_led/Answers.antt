use Rattle.std.proofs.Common.{sym, ap, subst, ◌∙◌}
use Rattle.poly_cells.specs.Coordinates.{IsInGrid}
use Rattle.poly_cells.specs.Shapes.{moved}
use Rattle.poly_place.proofs.WalkLemmas.{item_in, sum_cell}
use Rattle.poly_place.proofs.images.all_led.Goals as goal

pub unwrap-requires : goal.unwrap-requires
unwrap-requires c =
    c.new.ensures.accepted.1
    (subst IsInGrid
    (sym (sum_cell c.moved_back-from.result c.args.to _ _ _ _ _ _ c.x.ensures.value c.y.ensures.value c.z.ensures.value c.x-in-loop-cell.ensures.value c.y-in-loop-cell.ensures.value c.z-in-loop-cell.ensures.value
    ∙ ap (moved c.args.to) c.moved_back-from.ensures))
    (c.requires c.cell-item.result (item_in c.args.cells.now _ _ c.loop-cell-test.true c.cell-item.is)))
