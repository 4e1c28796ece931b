use Rattle.x_steps.specs.StateView.{state_value}
use Rattle.x_steps.proofs.ReadLemmas.{visit_at_X2, no_visit}
use Rattle.x_steps.proofs.machine.Machine.is_visit.Goals as goal

pub returns-in-X2 : goal.returns-in-X2
returns-in-X2 g c = rw (← c.self.view_is) (visit_at_X2 _ _ _ _ _ c.self.invariant c.in-X2.is _ c.has_active.ensures)

pub returns-in_default : goal.returns-in_default
returns-in_default g c = rw (← c.self.view_is) (no_visit _ (state_value c.self.inside.state) c.in_default.not-X2)
