use Rattle.std.proofs.Common.{ℕ, List, length, sym, ap, subst, ◌<◌, ◌∙◌}
use Rattle.std.proofs.lemmas.Result.{IfOk-weaker}
use Rattle.poly_place.specs.Forms.{carried}
use Rattle.poly_place.proofs.FormTableLemmas.{form_by_table}
use Rattle.poly_place.proofs.forms.first_form.Goals as goal

pub carried-requires : goal.carried-requires
carried-requires c k i =
    subst (λ (n : ℕ). k < n) (sym (ap (λ (t : List ℕ). length t) c.as_slice.ensures.value ∙ c.in_ok-firsts.ensures.long)) (c.requires.below k i)

pub returns : goal.returns
returns c =
    IfOk-weaker c.carried.result _ _ (λ form h.
    form_by_table c.args.numbers.now c.in_ok-firsts.firsts.items form.items c.args.size c.in_ok-firsts.ensures (h ∙ ap (λ (t : List ℕ). carried t c.args.numbers.now) c.as_slice.ensures.value)) c.carried.ensures
