use Rattle.std.proofs.Common.{sym, ◌∙◌}
use Rattle.poly_place.proofs.WalkLemmas.{all_within}
use Rattle.poly_place.proofs.placement.add_if_inside.Goals as goal

pub all_moved-requires : goal.all_moved-requires
all_moved-requires c = all_within _ _ _ (sym c.all_inside.ensures ∙ c.if-all_inside.true)
