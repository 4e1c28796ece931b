use Rattle.std.proofs.Common.{List, ap, subst, ◌∙◌, arith, refl, take_all}
use Rattle.poly_cells.specs.Coordinates.{Coordinates, IsInGrid}
use Rattle.poly_cells.proofs.CoordinateLemmas.{same_coordinates}
use Rattle.poly_place.specs.Tables.{bit_index}
use Rattle.poly_place.specs.Layers.{AreSymbols, painted}
use Rattle.poly_place.proofs.LayerLemmas.{painted_more}
use Rattle.poly_place.proofs.layer.paint.Goals as goal

pub loop-cell-preserved : goal.loop-cell-preserved
loop-cell-preserved c = λ f s.
    let here : IsInGrid c.cell-item.result = record { x_in = omega (arith, c.x.ensures.limit, c.x.ensures.value); y_in = omega (arith, c.y.ensures.limit, c.y.ensures.value); z_in = omega (arith, c.z.ensures.limit, c.z.ensures.value) } in
    painted_more f c.args.cells.now c.loop-cell.cell-index c.cell-item.result c.loop-cell.symbols _ c.args.symbol c.bit_index.result c.loop-cell-test.true c.cell-item.is here c.requires.ascii
    (c.bit_index.ensures ∙ ap bit_index (same_coordinates _ _ _ _ _ _ c.x.ensures.value c.y.ensures.value c.z.ensures.value)) refl (c.loop-cell.invariant f s)

pub returns : goal.returns
returns c = λ f s.
    subst (λ (vs : List Coordinates). AreSymbols (painted f vs c.args.symbol) c.loop-cell.symbols) (take_all _ _ c.loop-cell-test.false) (c.loop-cell.invariant f s)
