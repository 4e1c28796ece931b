use Rattle.std.proofs.Common.{sym, ap, ◌∙◌}
use Rattle.x_steps.specs.declared.state.Label.TheVariants.{X5}
use Rattle.x_steps.specs.declared.state.Cursor.TheVariants.{At}
use Rattle.x_steps.specs.StateValue.{at}
use Rattle.polylab_engine.proofs.ResumeLemmas.{end_at_last}
use Rattle.polylab_engine.proofs.resumption.end_state.Goals as goal

pub returns-in_ok-from_slice-in-Some : goal.returns-in_ok-from_slice-in-Some
returns-in_ok-from_slice-in-Some c =
    ap (λ front. at X5 front (At c.in-Some.last.now)) c.in_ok-from_slice-in-Some.ensures.items
    ∙ sym (end_at_last c.end_choices.result.now c.in-Some.front.now c.in-Some.last.now c.in-Some.ensures.cases.0)
    ∙ c.end_choices.ensures
