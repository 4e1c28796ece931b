use Rattle.std.proofs.Common.{◌∙◌, Some, ap, sym}
use Rattle.std.specs.Prelude.{option_map}
use Rattle.poly_distinct.specs.Moves.{thing_of}
use Rattle.poly_distinct.specs.Rule.{TallyValue}
use Rattle.poly_distinct.proofs.RuleLemmas.{all_leave_out, anchor_by}
use Rattle.poly_distinct.proofs.rule.anchor_by.Goals as goal

pub least_parts-requires : goal.least_parts-requires
least_parts-requires c = all_leave_out c.args.compiled.now c.args.all.now.group c.as_slice.result.now (c.as_slice.ensures.value ∙ c.in_ok-tallies.ensures)

pub returns-in-Some : goal.returns-in-Some
returns-in-Some c =
    ap (λ (t : TallyValue). Some (thing_of t.anchor)) c.tally.view_is
    ∙ ap (option_map (λ (t : TallyValue). thing_of t.anchor)) (sym c.in-Some.is)
    ∙ anchor_by c.args.compiled.now c.args.all.now.group c.problem.result.now c.in_ok-tally.field-0 c.as_slice-2.result.now c.as_slice.result.now c.in_ok-tally.ensures c.problem.ensures
    (c.as_slice-2.ensures.value ∙ c.in_ok-least.ensures) (c.as_slice.ensures.value ∙ c.in_ok-tallies.ensures)

pub returns : goal.returns
returns c =
    ap (option_map (λ (t : TallyValue). thing_of t.anchor)) (sym c.in-None.is)
    ∙ anchor_by c.args.compiled.now c.args.all.now.group c.problem.result.now c.in_ok-tally.field-0 c.as_slice-2.result.now c.as_slice.result.now c.in_ok-tally.ensures c.problem.ensures
    (c.as_slice-2.ensures.value ∙ c.in_ok-least.ensures) (c.as_slice.ensures.value ∙ c.in_ok-tallies.ensures)
