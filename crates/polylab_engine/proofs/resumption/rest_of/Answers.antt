use Rattle.std.proofs.Common.{sym, ap, ◌∙◌}
use Rattle.std.proofs.lemmas.Result.{IfOk-weaker}
use Rattle.x_steps.specs.StateView.{state_value}
use Rattle.x_snapshot.specs.Writer.{snapshot_text}
use Rattle.polylab_engine.proofs.ResumeLemmas.{rest_ended, rest_goes_on}
use Rattle.polylab_engine.proofs.resumption.rest_of.Goals as goal

pub returns-then-is_end : goal.returns-then-is_end
returns-then-is_end c =
    IfOk-weaker c.from_slice.result _ _
    (λ rest h. h ∙ sym (rest_ended c.args.snapshot (state_value c.args.state) c.requires (c.is_end.ensures.0 c.if-is_end.true ∙ c.end_choices.ensures)))
    c.from_slice.ensures.items

pub returns : goal.returns
returns c =
    IfOk-weaker c.write_snapshot.result _ _
    (λ rest h. h ∙ ap snapshot_text c.move_to.ensures
    ∙ sym (rest_goes_on c.args.snapshot (state_value c.args.state) c.requires
    (λ e. let ends = c.is_end.ensures.1 (e ∙ sym c.end_choices.ensures) in let not_end = c.if-is_end.false in cc)))
    c.write_snapshot.ensures
