use Rattle.std.proofs.Common.{◌≡◌, ℕ, List, OnOk, subst, sym, ap, ◌∙◌}
use Rattle.poly_place.specs.Chosen.{PackingValue}
use Rattle.poly_place.specs.Classes.{HaveOneRegion}
use Rattle.poly_place.specs.declared.alike.Group.TheVariants.{Rotations, Symmetries}
use Rattle.polylab_engine.specs.Classified.{classes_of}
use Rattle.poly_place.proofs.ClassCountLemmas.{of_one_puzzle}
use Rattle.polylab_engine.proofs.ClassifiedLemmas.{class_lines_added}
use Rattle.polylab_engine.proofs.classes.push_classes.Goals as goal

pub classes-requires : goal.classes-requires
classes-requires c = subst (λ (ps : List PackingValue). HaveOneRegion ps) (sym (c.as_slice.ensures.value ∙ c.in_ok-packings.ensures)) (of_one_puzzle c.args.compiled.now c.args.visits.now)

pub classes-requires-2 : goal.classes-requires-2
classes-requires-2 c = subst (λ (ps : List PackingValue). HaveOneRegion ps) (sym (c.as_slice-2.ensures.value ∙ c.in_ok-packings.ensures)) (of_one_puzzle c.args.compiled.now c.args.visits.now)

pub returns : goal.returns
returns c =
    subst (λ (ks : List ℕ). OnOk c.write_number_line-2.result (c.write_number_line-2.new.text.items ≡ ks))
    (class_lines_added _ _ _ _ _ _ c.in_ok-write_number_line.ensures
    (c.from.ensures ∙ c.in_ok-rotations.ensures.value ∙ ap (classes_of Rotations) (c.as_slice.ensures.value ∙ c.in_ok-packings.ensures))
    (c.from-2.ensures ∙ c.in_ok-symmetries.ensures.value ∙ ap (classes_of Symmetries) (c.as_slice-2.ensures.value ∙ c.in_ok-packings.ensures)))
    c.write_number_line-2.ensures
