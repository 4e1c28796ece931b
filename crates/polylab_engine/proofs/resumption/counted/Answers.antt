use Rattle.std.proofs.Common.{sym, subst}
use Rattle.x_steps.specs.Steps.{Fits}
use Rattle.x_steps.specs.StateView.{state_value}
use Rattle.polylab_engine.proofs.ResumeLemmas.{end_fits, counted_text}
use Rattle.polylab_engine.proofs.resumption.counted.Goals as goal

pub count_stretch-requires-clause-to : goal.count_stretch-requires-clause-to
count_stretch-requires-clause-to c =
    subst (λ p. Fits p (state_value c.in_ok-end.end)) (sym c.problem.ensures.problem)
    (subst (Fits c.args.snapshot.now.problem) (sym c.in_ok-end.ensures) (end_fits c.args.snapshot.now c.is_sound.ensures.snapshot))

pub returns : goal.returns
returns c =
    counted_text c.args.snapshot.now c.is_sound.ensures.snapshot c.in_ok-report.report c.push_totals.new.text.items _
    (rw (c.problem.ensures.problem, c.state.ensures, c.in_ok-end.ensures) at c.in_ok-report.ensures) (rw c.new-text.ensures.items at c.in_ok-push_totals.ensures) c.in_ok-extend_from_slice.ensures.items
