use Rattle.std.proofs.Common.{◌≡◌, List, length, ◌<◌, map, sym, ap, ap₂, subst, ◌∙◌}
use Rattle.std.specs.List.Sorted.{IsStrictlySortedBy}
use Rattle.std.proofs.lemmas.Result.{IfOk-weaker}
use Rattle.poly_cells.specs.Coordinates.{Coordinates, coordinates_cmp}
use Rattle.poly_cells.specs.Symmetries.{Matrix}
use Rattle.poly_cells.specs.Turns.{turned_by}
use Rattle.poly_cells.specs.Sets.{in_order}
use Rattle.poly_cells.specs.Shapes.{IsShape, normal}
use Rattle.poly_cells.specs.Images.{IsTurned}
use Rattle.poly_cells.proofs.ImageLemmas.{turned_is, turned_set}
use Rattle.poly_cells.proofs.ShapeLemmas.{turned_from_set, turned_set_is_shape}
use Rattle.poly_cells.proofs.shape.Shape.turned.Goals as goal
use Rattle.poly_cells.proofs.shape.Shape.turned.Goals.{After-as_slice-ordered}

shape : (c : After-as_slice-ordered) → IsShape c.args.self.now
shape c = subst IsShape c.self.view_is c.self.invariant.0

-- the cells are turned and in order
ordered : (c : After-as_slice-ordered) → c.as_slice-ordered.result.now ≡ turned_set c.args.symmetry c.args.self.now
ordered c =
    c.as_slice-ordered.ensures.value ∙ c.put_in_order.ensures.value
    ∙ ap (in_order coordinates_cmp) (c.in_ok-cells.ensures ∙ ap₂ (λ (m : Matrix) (vs : List Coordinates). map (turned_by m) vs) c.matrix.ensures.value (c.as_slice.ensures.value ∙ c.self.view_is))

pub at_origin-requires-clause-some : goal.at_origin-requires-clause-some
at_origin-requires-clause-some c =
    let at = (goal.at.at_origin-requires-clause-some c).After-as_slice-ordered in
    subst (λ (vs : List Coordinates). 0 < length vs) (sym (ordered at)) (turned_set_is_shape c.args.symmetry _ (shape at).some (shape at).limits).some

pub at_origin-requires-clause-rises : goal.at_origin-requires-clause-rises
at_origin-requires-clause-rises c =
    let at = (goal.at.at_origin-requires-clause-rises c).After-as_slice-ordered in
    subst (IsStrictlySortedBy coordinates_cmp) (sym (ordered at)) (turned_set_is_shape c.args.symmetry _ (shape at).some (shape at).limits).rises

pub returns-clause-value : goal.returns-clause-value
returns-clause-value c =
    IfOk-weaker c.at_origin.result _ _ (λ s h. h ∙ ap normal (ordered (goal.at.returns-clause-value c).After-as_slice-ordered) ∙ turned_from_set _ _) c.at_origin.ensures

pub returns-clause-image : goal.returns-clause-image
returns-clause-image c =
    let at = (goal.at.returns-clause-image c).After-as_slice-ordered in
    IfOk-weaker c.at_origin.result _ _
    (λ s h. subst (IsTurned c.args.symmetry c.args.self.now) (sym (h ∙ ap normal (ordered at) ∙ turned_from_set _ _)) (turned_is c.args.symmetry _ (shape at).some (shape at).limits))
    c.at_origin.ensures
