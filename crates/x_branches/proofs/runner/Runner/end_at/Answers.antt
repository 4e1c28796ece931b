use Rattle.x_branches.proofs.RunnerLemmas.{shortened}
use Rattle.x_branches.proofs.runner.Runner.end_at.Goals as goal

pub invariant_of-self : goal.invariant_of-self
invariant_of-self g c = shortened _ _ _ _ c.self.invariant _ (rw (← c.self.view_is) at c.requires)
