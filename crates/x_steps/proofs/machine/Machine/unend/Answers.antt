use Rattle.x_steps.proofs.BackLemmas.{to_end, goes_back}
use Rattle.x_steps.proofs.MachineLemmas.{kept_at}
use Rattle.x_steps.proofs.machine.Machine.unend.Goals as goal

pub invariant_of-self : goal.invariant_of-self
invariant_of-self g c = rw c.go.ensures (to_end _ _ _ _ _ _ (kept_at c.self.view_is c.requires c.self.invariant)).keeps

pub returns : goal.returns
returns g c = rw c.go.ensures (goes_back c.self.view_is c.requires tt (to_end _ _ _ _ _ _ (kept_at c.self.view_is c.requires c.self.invariant)))
