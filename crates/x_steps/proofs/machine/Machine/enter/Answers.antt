use Rattle.x_steps.proofs.MachineLemmas.{enters, goes, kept_at}
use Rattle.x_steps.proofs.machine.Machine.enter.Goals as goal

pub invariant_of-self : goal.invariant_of-self
invariant_of-self g c = rw (c.go.ensures, c.label_entered.ensures) (enters _ _ _ _ _ _ _ c.has_active-open.ensures (kept_at c.self.view_is c.requires c.self.invariant)).keeps

pub returns : goal.returns
returns g c = rw (c.go.ensures, c.label_entered.ensures, c.event_entered.ensures) (goes c.self.view_is c.requires (enters _ _ _ _ _ _ _ c.has_active-open.ensures (kept_at c.self.view_is c.requires c.self.invariant)))
