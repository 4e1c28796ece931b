use Rattle.std.proofs.Common.{◌∙◌}
use Rattle.x_snapshot.specs.Snapshot.{choices_of}
use Rattle.x_steps.specs.StateView.{state_value}
use Rattle.debug_acts.proofs.SaveLemmas.{is_snapshot}
use Rattle.debug_acts.proofs.ends.snapshot.snapshot_of_worker.Goals as goal

pub unreachable-requires : goal.unreachable-requires
unreachable-requires g c =
    is_snapshot c.args.worker.now.runner c.runner-runner.result.now c.branch-branch.result.now c.in_ok-problem.problem (choices_of c.in_ok-lo.lo) (choices_of c.in_ok-hi.hi) (state_value c.in_ok-state.state) c.args.breaks.items c.in-Err.refused.fault
    c.state-position.ensures.runner c.runner-runner.ensures c.branch-branch.ensures (c.in_ok-problem.ensures ∙ c.requires.same) (c.in_ok-state.ensures ∙ c.state-position.ensures.state)
    c.in_ok-lo.ensures.path c.in_ok-hi.ensures.path c.in_ok-lo.ensures.cut c.in_ok-hi.ensures.cut c.requires.breaks c.in-Err.ensures.refused c.in_default.not-OutOfMemory
