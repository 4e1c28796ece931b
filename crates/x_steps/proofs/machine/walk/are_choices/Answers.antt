use Rattle.std.proofs.Common.{◌≡◌, [], ◌∷◌, ◌++◌, sym, ap, ◌∙◌}
use Rattle.std.proofs.lemmas.List.{same_from_push}
use Rattle.std.proofs.lemmas.Slice.Eq.{bytes_eq-Decides}
use Rattle.x_steps.proofs.machine.walk.are_choices.Goals as goal

pub returns-then-last-option : goal.returns-then-last-option
returns-then-last-option c =
    let same = bytes_eq-Decides c.in-Some.front.now c.args.path.now in
    let parts : c.args.choices.now ≡ c.in-Some.front.now ++ c.args.option ∷ [] = c.in-Some.ensures.cases.0 ∙ ap (λ o. c.in-Some.front.now ++ o ∷ []) c.if-last-option.true in
    (λ e. ap (λ f. f ++ c.args.option ∷ []) (sym (same.0 (sym c.eq.ensures ∙ e))) ∙ sym parts, λ e. c.eq.ensures ∙ same.1 (same_from_push _ _ _ _ (sym parts ∙ sym e)).0)
