use Rattle.x_branches.proofs.MarkLemmas.{can_start}
use Rattle.x_branches.proofs.RunnerLemmas.{position_fits}
use Rattle.x_branches.proofs.runner.Runner.is_in.Goals as goal

pub returns-clause-can : goal.returns-clause-can
returns-clause-can g c =
    rw (← c.self.view_is)
    (can_start _ _ _ _ _ _ c.problem.ensures c.state.ensures.state (position_fits _ _ _ _ c.self.invariant) c.holds.ensures.branch c.holds.ensures.within c.holds.ensures.outside)
