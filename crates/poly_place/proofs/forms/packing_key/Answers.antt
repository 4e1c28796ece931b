use Rattle.std.proofs.Common.{ℕ, ◌+◌, List, length, sym, ap, subst, ◌∙◌}
use Rattle.std.proofs.lemmas.List.{length-map}
use Rattle.std.proofs.lemmas.Result.{IfOk-weaker}
use Rattle.poly_place.specs.Lists.{lists_of}
use Rattle.poly_place.specs.Classes.{part_at}
use Rattle.poly_place.specs.Forms.{AreBelow, AllAreBelow, least_form, parts_in}
use Rattle.poly_place.proofs.FormTableLemmas.{parts_below}
use Rattle.poly_place.proofs.forms.packing_key.Goals as goal

pub least_form-requires-clause-below : goal.least_form-requires-clause-below
least_form-requires-clause-below c =
    let cs = c.placements-placements.result.now in
    subst (AreBelow (length cs + 1)) (sym (c.as_slice.ensures.value ∙ c.in_ok-parts.ensures)) (parts_below c.args.region.now cs)

pub least_form-requires-clause-carriers : goal.least_form-requires-clause-carriers
least_form-requires-clause-carriers c =
    let cs = c.placements-placements.result.now in
    subst (λ (n : ℕ). AllAreBelow n (lists_of c.args.carriers.now))
    (sym (ap (λ (ks : List ℕ). length ks) (c.as_slice.ensures.value ∙ c.in_ok-parts.ensures) ∙ length-map c.args.region.now (part_at cs))) c.requires.carriers

pub returns : goal.returns
returns c =
    IfOk-weaker c.least_form.result _ _ (λ form is.
    is ∙ ap (λ (ks : List ℕ). least_form ks (lists_of c.args.carriers.now))
    (c.as_slice.ensures.value ∙ c.in_ok-parts.ensures ∙ ap (parts_in c.args.region.now) c.placements-placements.ensures)) c.least_form.ensures
