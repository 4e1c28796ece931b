use Rattle.std.proofs.Common.{◌≡◌, ℕ, ◌-◌, ◌<◌, ◌≤◌, slice_index, slice_set, List, map, length, take_all, vec_items, ap, ◌∙◌, arith, refl}
use Rattle.std.proofs.Math.ListN.{length-set}
use Rattle.poly_cells.specs.Coordinates.{Coordinates, IsInGrid}
use Rattle.poly_place.specs.Compiled.{item_number_at}
use Rattle.poly_place.specs.Layers.{painted}
use Rattle.poly_place.proofs.FormTableLemmas.{paint_more}
use Rattle.poly_place.proofs.NumberedLemmas.{table_at}
use Rattle.poly_place.proofs.forms.paint_parts.Goals as goal
use Rattle.poly_place.proofs.forms.paint_parts.Goals.{then-place-gt0, else-place-gt0}

pub loop-cell-preserved : goal.loop-cell-preserved
loop-cell-preserved c =
    let v = c.cell-item.result in
    let table = c.args.places.now in
    let place : ℕ = slice_index table c.bit_index.result in
    let grid : IsInGrid v = record { x_in = omega (arith, c.x.ensures.limit, c.x.ensures.value); y_in = omega (arith, c.y.ensures.limit, c.y.ensures.value); z_in = omega (arith, c.z.ensures.limit, c.z.ensures.value) } in
    let at : place ≡ item_number_at table v =
    table_at table v c.x.result c.y.result c.z.result c.bit_index.result place 0 c.requires.table c.x.ensures.value c.y.ensures.value c.z.ensures.value c.x.ensures.limit c.y.ensures.limit c.z.ensures.limit
    c.bit_index.ensures refl in
    elim c.if-place-gt0.branch [
      | then-place-gt0 w ↦
          let made : c.if-place-gt0.parts.items ≡ slice_set c.loop-cell.parts.items (place - 1) c.args.part = ap vec_items w.parts-is in
          record {
            shows = λ region f s are so.
                paint_more region c.args.cells.now table f c.loop-cell.cell-index place c.args.part v _ _ s are c.loop-cell-test.true c.cell-item.is grid at (λ h. made)
                (λ (h : place ≤ 0). let more : 0 < place = w.if-place-gt0.true in absurd (omega (arith, more, h))) (c.loop-cell.invariant.shows region f s are so);
            long = ap length made ∙ length-set c.loop-cell.parts.items (place - 1) c.args.part ∙ c.loop-cell.invariant.long;
          }
      | else-place-gt0 w ↦
          let same : c.if-place-gt0.parts.items ≡ c.loop-cell.parts.items = ap vec_items w.parts-is in
          record {
            shows = λ region f s are so.
                paint_more region c.args.cells.now table f c.loop-cell.cell-index place c.args.part v _ _ s are c.loop-cell-test.true c.cell-item.is grid at
                (λ (h : 0 < place). let none : place ≤ 0 = w.if-place-gt0.false in absurd (omega (arith, none, h))) (λ h. same) (c.loop-cell.invariant.shows region f s are so);
            long = ap length same ∙ c.loop-cell.invariant.long;
          }
    ]

pub returns : goal.returns
returns c = λ region f s are so.
    c.loop-cell.invariant.shows region f s are so
    ∙ ap (λ (us : List Coordinates). map (painted f us c.args.part) region) (take_all c.loop-cell.cell-index c.args.cells.now c.loop-cell-test.false)
