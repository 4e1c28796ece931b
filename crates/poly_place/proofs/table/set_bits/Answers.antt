use Rattle.std.proofs.Common.{List, ◌++◌, subst, take_all, refl, ap, ◌∙◌}
use Rattle.poly_cells.specs.Coordinates.{Coordinates}
use Rattle.poly_cells.proofs.CoordinateLemmas.{same_coordinates}
use Rattle.poly_place.specs.Tables.{bit_index, IsCellTable}
use Rattle.poly_place.proofs.WalkLemmas.{item_in}
use Rattle.poly_place.proofs.TableLemmas.{table_more}
use Rattle.poly_place.proofs.table.set_bits.Goals as goal

pub loop-cell-preserved : goal.loop-cell-preserved
loop-cell-preserved c = λ region t.
    table_more region c.args.cells.now c.loop-cell.cell-index c.cell-item.result c.loop-cell.bits _ c.bit_index.result c.loop-cell-test.true c.cell-item.is
    (c.requires.limits c.cell-item.result (item_in c.args.cells.now _ _ c.loop-cell-test.true c.cell-item.is))
    (c.bit_index.ensures ∙ ap bit_index (same_coordinates _ _ _ _ _ _ c.x.ensures.value c.y.ensures.value c.z.ensures.value))
    refl
    (c.loop-cell.invariant region t)

pub returns : goal.returns
returns c = λ region t.
    subst (λ (vs : List Coordinates). IsCellTable (region ++ vs) c.loop-cell.bits) (take_all _ _ c.loop-cell-test.false) (c.loop-cell.invariant region t)
