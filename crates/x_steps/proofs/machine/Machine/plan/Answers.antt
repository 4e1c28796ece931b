use Rattle.x_steps.proofs.MachineLemmas.{plans, goes, kept_at}
use Rattle.x_steps.proofs.machine.Machine.plan.Goals as goal

pub invariant_of-self : goal.invariant_of-self
invariant_of-self g c = rw c.go.ensures (plans _ _ _ _ _ _ (kept_at c.self.view_is c.requires c.self.invariant)).keeps

pub returns : goal.returns
returns g c = rw c.go.ensures (goes c.self.view_is c.requires (plans _ _ _ _ _ _ (kept_at c.self.view_is c.requires c.self.invariant)))
