use Rattle.std.proofs.Common.{◌≡◌, sym, ◌∙◌}
use Rattle.std.proofs.lemmas.Slice.Eq.{slice_eq-Decides}
use Rattle.poly_cells.specs.Shapes.{turned, normal}
use Rattle.poly_cells.proofs.CoordinateLemmas.{is_same_Decides}
use Rattle.poly_cells.proofs.RegionLemmas.{symmetry_from_forms, forms_from_symmetry}
use Rattle.poly_cells.proofs.region.is_kept.Goals as goal

pub returns : goal.returns
returns c =
    let decides = slice_eq-Decides is_same_Decides c.cells.result.now c.cells-2.result.now c.eq.result c.eq.ensures in
    let turns : c.cells.result.now ≡ turned c.args.symmetry c.args.region.now = c.cells.ensures.value ∙ c.in_ok-turned.ensures.value in
    let settles : c.cells-2.result.now ≡ normal c.args.region.now = c.cells-2.ensures.value ∙ c.requires.settled in
    ((λ t. symmetry_from_forms _ _ c.requires.shape (sym turns ∙ decides.0 t ∙ settles)), (λ h. decides.1 (turns ∙ forms_from_symmetry _ _ c.requires.shape h ∙ sym settles)))
