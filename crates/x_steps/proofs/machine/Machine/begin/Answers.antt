use Rattle.x_steps.proofs.MachineLemmas.{begins, goes, kept_at}
use Rattle.x_steps.proofs.machine.Machine.begin.Goals as goal

pub invariant_of-self : goal.invariant_of-self
invariant_of-self g c = rw c.go.ensures (begins _ _ _ _ _ _ (kept_at c.self.view_is c.requires c.self.invariant)).keeps

pub returns : goal.returns
returns g c = rw c.go.ensures (goes c.self.view_is c.requires (begins _ _ _ _ _ _ (kept_at c.self.view_is c.requires c.self.invariant)))
