use Rattle.std.proofs.Common.{[], ◌∷◌, sym, ◌∙◌}
use Rattle.std.proofs.lemmas.List.{same_from_push}
use Rattle.x_steps_tests.proofs.link_tests.uncover_three.Goals as goal

pub uncover-requires : goal.uncover-requires
uncover-requires g c = (c.args.a ∷ c.args.b ∷ [], c.requires)

pub uncover-requires-2 : goal.uncover-requires-2
uncover-requires-2 g c =
    (c.args.a ∷ [], (same_from_push _ _ _ _ (sym c.uncover.ensures.covered ∙ c.requires)).0)

pub uncover-requires-3 : goal.uncover-requires-3
uncover-requires-3 g c =
    let one = (same_from_push _ _ _ _ (sym c.uncover.ensures.covered ∙ c.requires)).0 in
    ([], (same_from_push _ _ _ _ (sym c.uncover-2.ensures.covered ∙ one)).0)
