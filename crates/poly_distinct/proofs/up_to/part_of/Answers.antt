use Rattle.std.proofs.Common.{ap, sym, ◌∙◌}
use Rattle.std.specs.Prelude.{option_map}
use Rattle.poly_distinct.specs.Moves.{MovesValue, thing_of}
use Rattle.poly_distinct.specs.Rule.{anchor_of}
use Rattle.poly_distinct.proofs.AnchorRuleLemmas.{anchor_is_one}
use Rattle.poly_distinct.proofs.PartLemmas.{moves_chosen}
use Rattle.poly_distinct.proofs.up_to.part_of.Goals as goal

pub at-requires-clause-anchor : goal.at-requires-clause-anchor
at-requires-clause-anchor c =
    anchor_is_one c.args.compiled.now c.args.group (thing_of c.in-Some.anchor)
    (sym (c.in_ok-anchor_by.ensures ∙ ap (λ (m : MovesValue). anchor_of c.args.compiled.now m.group) c.in_ok-all.ensures) ∙ ap (option_map thing_of) c.in-Some.is)

pub at-requires-clause-moves : goal.at-requires-clause-moves
at-requires-clause-moves c =
    moves_chosen c.args.compiled.now c.args.exchange.now c.args.group (thing_of c.in-Some.anchor) c.moves_for-moves.result c.in_ok-all.all c.in_ok-turns.turns c.requires c.in_ok-all.ensures c.in_ok-turns.ensures
    c.moves_for-moves.ensures
