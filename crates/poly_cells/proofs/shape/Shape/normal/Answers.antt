use Rattle.std.proofs.Common.{◌≡◌, List, sym, ap, subst, ◌∙◌}
use Rattle.std.proofs.lemmas.Result.{IfOk-weaker}
use Rattle.poly_cells.specs.Coordinates.{Coordinates}
use Rattle.poly_cells.specs.Shapes.{IsShape, normal}
use Rattle.poly_cells.specs.Images.{IsNormal}
use Rattle.poly_cells.proofs.ImageLemmas.{normal_is}
use Rattle.poly_cells.proofs.shape.Shape.normal.Goals as goal

pub returns-clause-image : goal.returns-clause-image
returns-clause-image c =
    let shape : IsShape c.args.self.now = subst IsShape c.self.view_is c.self.invariant.0 in
    let same : c.as_slice.result.now ≡ c.args.self.now = c.as_slice.ensures.value ∙ c.self.view_is in
    IfOk-weaker c.at_origin.result (λ (s : List Coordinates). s ≡ normal c.as_slice.result.now) (λ (s : List Coordinates). IsNormal c.args.self.now s) (λ s h. subst (IsNormal c.args.self.now) (sym (h ∙ ap normal same)) (normal_is _ shape.some shape.limits)) c.at_origin.ensures
