use Rattle.x_steps.proofs.MachineLemmas.{label_of}
use Rattle.x_steps.proofs.ResumeLemmas.{active_X2}
use Rattle.x_steps.proofs.machine.Machine.is_open.Goals as goal

pub returns : goal.returns
returns g c = rw (← c.self.view_is) (active_X2 _ _ _ _ _ c.self.invariant (label_of c.self.view_is c.requires) _ c.has_active.ensures)
