use Rattle.std.proofs.Common.{sym, ◌∙◌}
use Rattle.std.specs.Cmp.{booleans_Decides}
use Rattle.std.proofs.lemmas.Slice.Eq.{slice_eq-Decides}
use Rattle.poly_place.proofs.images.keeps_marks.Goals as goal

pub returns : goal.returns
returns c =
    let decides = slice_eq-Decides booleans_Decides c.as_slice.result.now c.args.marked.now c.eq.result c.eq.ensures in
    let is = c.as_slice.ensures.value ∙ c.in_ok-marks.ensures in
    ((λ t. sym is ∙ decides.0 t), (λ h. decides.1 (is ∙ h)))
