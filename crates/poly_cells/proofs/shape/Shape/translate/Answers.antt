use Rattle.std.proofs.Common.{◌≡◌, List, sym, ap, subst, ◌∙◌, refl, Result, Ok, Err, to_z, of_z, w32}
use Rattle.poly_cells.specs.declared.fault.TranslateFault.{TranslateFault}
use Rattle.poly_cells.specs.declared.fault.TranslateFault.TheVariants.{OutOfRange, OutOfMemory}
use Rattle.std.specs.Result.{IsErrAnd}
use Rattle.poly_cells.specs.Coordinates.{Coordinates}
use Rattle.poly_cells.specs.Points.{Point, point_at}
use Rattle.poly_cells.specs.Shapes.{IsShape}
use Rattle.poly_cells.specs.Images.{IsTranslate}
use Rattle.poly_cells.proofs.TranslateLemmas.{translates_rise, is_translate, stay_all, same_translation}
use Rattle.poly_cells.specs.Images.{translates}
use Rattle.poly_cells.proofs.shape.Shape.translate.Goals as goal
use Rattle.poly_cells.proofs.shape.Shape.translate.Goals.{After-as_slice-cells}

same : (c : After-as_slice-cells) → c.as_slice-cells.result.now ≡ c.args.self.now
same c = c.as_slice-cells.ensures.value ∙ c.self.view_is

only_memory : {T : Type 0} (r : Result T TranslateFault) → IsErrAnd r (λ f. f ≡ OutOfMemory) → r ≡ Err OutOfRange → ⊥
only_memory (Ok x) h e = absurd h
only_memory (Err f) h e = cc

pub returns-then-not-stay_inside-clause-refused : goal.returns-then-not-stay_inside-clause-refused
returns-then-not-stay_inside-clause-refused c = (
  (λ h s.
      let stays = c.stay_inside.ensures.1 (stay_all _ _ _ _ s (sym (same (goal.at.returns-then-not-stay_inside-clause-refused c).After-as_slice-cells)) (sym (same_translation _ _ _ c.ranges.dx c.ranges.dy c.ranges.dz))) in
      cc),
  (λ h. refl),
)

pub returns-in_err-moved-clause-refused : goal.returns-in_err-moved-clause-refused
returns-in_err-moved-clause-refused c = (
  (λ h s. only_memory c.from_residual.result c.from_residual.ensures.1 h),
  (λ none.
      absurd (none (stay_all _ _ _ _ (c.stay_inside.ensures.0 c.if-not-stay_inside.false) (same (goal.at.returns-in_err-moved-clause-refused c).After-as_slice-cells) (same_translation _ _ _ c.ranges.dx c.ranges.dy c.ranges.dz)))),
)

pub new-requires-clause-rises : goal.new-requires-clause-rises
new-requires-clause-rises c =
    let shape : IsShape c.args.self.now = subst IsShape c.self.view_is c.self.invariant.0 in
    translates_rise _ _ _ (c.in_ok-moved.ensures ∙ ap (translates _) (same (goal.at.new-requires-clause-rises c).After-as_slice-cells)) shape.rises

pub returns-clause-image : goal.returns-clause-image
returns-clause-image c =
    let d : point_at (to_z w32 (of_z w32 c.args.dx)) (to_z w32 (of_z w32 c.args.dy)) (to_z w32 (of_z w32 c.args.dz)) ≡ point_at c.args.dx c.args.dy c.args.dz = same_translation _ _ _ c.ranges.dx c.ranges.dy c.ranges.dz in
    subst (λ (s : List Coordinates). IsTranslate (point_at c.args.dx c.args.dy c.args.dz) c.args.self.now s) (sym c.new.ensures)
    (is_translate _ _ _ (c.in_ok-moved.ensures ∙ ap (λ (e : Point). translates e c.as_slice-cells.result.now) d ∙ ap (translates _) (same (goal.at.returns-clause-image c).After-as_slice-cells)))

pub returns-clause-refused : goal.returns-clause-refused
returns-clause-refused c = (
  (λ h. cc),
  (λ none.
      absurd (none (stay_all _ _ _ _ (c.stay_inside.ensures.0 c.if-not-stay_inside.false) (same (goal.at.returns-clause-refused c).After-as_slice-cells) (same_translation _ _ _ c.ranges.dx c.ranges.dy c.ranges.dz)))),
)
