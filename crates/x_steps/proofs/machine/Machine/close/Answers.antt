use Rattle.x_steps.proofs.MachineLemmas.{closes, some_at_X7, goes, kept_at}
use Rattle.x_steps.proofs.machine.Machine.close.Goals as goal

pub last_covered-item-requires : goal.last_covered-item-requires
last_covered-item-requires g c = some_at_X7 _ _ _ _ _ _ (kept_at c.self.view_is c.requires c.self.invariant)

pub invariant_of-self : goal.invariant_of-self
invariant_of-self g c = rw c.go.ensures (closes _ _ _ _ _ _ _ _ _ c.uncover.ensures.same_problem c.uncover.ensures.covered (kept_at c.self.view_is c.requires c.self.invariant)).keeps

pub returns : goal.returns
returns g c = rw c.go.ensures (goes c.self.view_is c.requires (closes _ _ _ _ _ _ _ _ _ c.uncover.ensures.same_problem c.uncover.ensures.covered (kept_at c.self.view_is c.requires c.self.invariant)))
