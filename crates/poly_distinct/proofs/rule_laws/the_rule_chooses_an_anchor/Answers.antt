use Rattle.poly_distinct.proofs.AnchorRuleLemmas.{anchor_is_one}
use Rattle.poly_distinct.proofs.rule_laws.the_rule_chooses_an_anchor.Goals as goal

pub returns : goal.returns
returns c = anchor_is_one
