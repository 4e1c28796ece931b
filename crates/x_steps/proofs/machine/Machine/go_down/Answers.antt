use Rattle.x_steps.proofs.ResumeLemmas.{took}
use Rattle.x_steps.proofs.machine.Machine.go_down.Goals as goal

pub returns : goal.returns
returns g c = took _ _ _ _ _ _ c.arrive_at_option.ensures c.take.ensures
