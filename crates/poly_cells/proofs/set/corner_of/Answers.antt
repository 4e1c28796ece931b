use Rattle.std.proofs.Common.{◌≡◌, ap, subst, ◌∙◌, arith, take, take_all, min}
use Rattle.poly_cells.specs.Coordinates.{IsInGrid}
use Rattle.poly_cells.specs.Shapes.{AllInGrid, corner}
use Rattle.poly_cells.proofs.CoordinateLemmas.{same_coordinates}
use Rattle.poly_cells.proofs.CornerLemmas.{corner_more, limits_more}
use Rattle.poly_cells.proofs.set.corner_of.Goals as goal

pub loop-cell-preserved : goal.loop-cell-preserved
loop-cell-preserved c =
    let here : IsInGrid c.cell-item.result = record { x_in = omega (arith, c.x.ensures.limit, c.x.ensures.value); y_in = omega (arith, c.y.ensures.limit, c.y.ensures.value); z_in = omega (arith, c.z.ensures.limit, c.z.ensures.value) } in
    record {
      least =
          same_coordinates _ _ _ _ _ _ (c.min-x.ensures ∙ ap (min c.loop-cell.x) c.x.ensures.value) (c.min-y.ensures ∙ ap (min c.loop-cell.y) c.y.ensures.value) (c.min-z.ensures ∙ ap (min c.loop-cell.z) c.z.ensures.value)
          ∙ corner_more _ _ _ _ _ _ c.loop-cell-test.true c.cell-item.is c.loop-cell.invariant.least;
      limits = limits_more _ _ _ c.loop-cell-test.true c.cell-item.is c.loop-cell.invariant.limits here;
      here = record { x_in = omega (arith, c.min-x.ensures, c.loop-cell.invariant.here.x_in); y_in = omega (arith, c.min-y.ensures, c.loop-cell.invariant.here.y_in); z_in = omega (arith, c.min-z.ensures, c.loop-cell.invariant.here.z_in) };
    }

pub returns : goal.returns
returns c =
    let all : take c.loop-cell.cell-index c.args.cells.now ≡ c.args.cells.now = take_all _ _ c.loop-cell-test.false in
    record {
      value = c.at.ensures ∙ c.loop-cell.invariant.least ∙ ap corner all;
      limits = subst AllInGrid all c.loop-cell.invariant.limits;
    }
