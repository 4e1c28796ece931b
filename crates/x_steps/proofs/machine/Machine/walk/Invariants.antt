use Rattle.std.proofs.Common.{◌-◌}
use Rattle.x_steps.proofs.WalkLemmas.{Walks}
use Rattle.x_steps.proofs.machine.Machine.walk.Given as goal

abbrev pub invariant-loop-self : goal.invariant-loop-self
invariant-loop-self g l = Walks l.fn.self.problem l.most l.end l.self l.fn.self.state l.fn.counts l.counts l.walk.steps l.walk.event

abbrev pub decreases-loop-self : goal.decreases-loop-self
decreases-loop-self g l = l.most - l.walk.steps
