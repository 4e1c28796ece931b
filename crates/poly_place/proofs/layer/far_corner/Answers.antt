use Rattle.std.proofs.Common.{ap, ◌∙◌, arith, max}
use Rattle.poly_cells.proofs.CoordinateLemmas.{same_coordinates}
use Rattle.poly_place.proofs.LayerLemmas.{far_more}
use Rattle.poly_place.proofs.layer.far_corner.Goals as goal

pub loop-cell-preserved : goal.loop-cell-preserved
loop-cell-preserved c = record {
  corner =
      same_coordinates _ _ _ _ _ _ (c.max-x.ensures ∙ ap (max c.loop-cell.x) c.x.ensures.value) (c.max-y.ensures ∙ ap (max c.loop-cell.y) c.y.ensures.value) (c.max-z.ensures ∙ ap (max c.loop-cell.z) c.z.ensures.value)
      ∙ far_more _ _ _ _ _ _ c.loop-cell-test.true c.cell-item.is c.loop-cell.invariant.corner;
  here = record { x_in = omega (arith, c.max-x.ensures, c.loop-cell.invariant.here.x_in, c.x.ensures.limit); y_in = omega (arith, c.max-y.ensures, c.loop-cell.invariant.here.y_in, c.y.ensures.limit); z_in = omega (arith, c.max-z.ensures, c.loop-cell.invariant.here.z_in, c.z.ensures.limit) };
}
