use Rattle.std.proofs.Common.{ℕ, sym, ap, subst, ◌∙◌}
use Rattle.shared_words.specs.Answers.{ReturnsItems}
use Rattle.poly_place.specs.Lists.{lists_of}
use Rattle.poly_place.specs.Chosen.{PackingValue}
use Rattle.poly_place.specs.Forms.{key_of, parts_in}
use Rattle.poly_distinct.specs.Form.{EachIsMove, IsMove}
use Rattle.poly_distinct.proofs.ToldFormLemmas.{form_as_long, form_below, least_told, parts_long}
use Rattle.poly_distinct.proofs.news.key.Goals as goal

pub least_form-requires-clause-below : goal.least_form-requires-clause-below
least_form-requires-clause-below c = form_below (parts_in c.args.cells.now c.in_ok-packing.packing.placements) c.as_slice.result.now (c.as_slice.ensures.value ∙ c.in_ok-form.ensures)

pub least_form-requires-clause-carriers : goal.least_form-requires-clause-carriers
least_form-requires-clause-carriers c g i =
    let cs = c.in_ok-packing.packing.placements in
    subst (λ (n : ℕ). IsMove n g)
    (sym (form_as_long (parts_in c.args.cells.now cs) c.as_slice.result.now (c.as_slice.ensures.value ∙ c.in_ok-form.ensures) ∙ parts_long c.args.cells.now cs)) (c.requires.carriers g i)

pub returns : goal.returns
returns c =
    let cs = c.in_ok-packing.packing.placements in
    let gs = lists_of c.args.carriers.now in
    subst (ReturnsItems c.least_form.result)
    (least_told (parts_in c.args.cells.now cs) c.as_slice.result.now (c.as_slice.ensures.value ∙ c.in_ok-form.ensures) gs
    (subst (λ (n : ℕ). EachIsMove n gs) (sym (parts_long c.args.cells.now cs)) c.requires.carriers)
    ∙ ap (λ (p : PackingValue). key_of c.args.cells.now gs p) c.in_ok-packing.ensures.value)
    c.least_form.ensures
