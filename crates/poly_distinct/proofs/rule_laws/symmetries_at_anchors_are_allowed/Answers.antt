use Rattle.poly_distinct.proofs.RuleLemmas.{allowed_is}
use Rattle.poly_distinct.proofs.rule_laws.symmetries_at_anchors_are_allowed.Goals as goal

pub returns : goal.returns
returns c = allowed_is
