use Rattle.std.proofs.Common.{sym, subst}
use Rattle.x_steps.specs.StateValue.{StateValue}
use Rattle.x_snapshot.specs.Snapshot.{IsSnapshot, at_state}
use Rattle.polylab_engine.proofs.ResumeLemmas.{stop_is_snapshot}
use Rattle.polylab_engine.proofs.resumption.walked.Goals as goal

pub rest_of-requires : goal.rest_of-requires
rest_of-requires c =
    subst (λ (t : StateValue). IsSnapshot (at_state c.args.snapshot t)) (sym c.in_ok-report.ensures.stop)
    (stop_is_snapshot c.args.most c.args.snapshot c.is_sound.ensures.snapshot)
