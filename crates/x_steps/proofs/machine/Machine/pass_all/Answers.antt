use Rattle.x_steps.proofs.ResumeLemmas.{passed}
use Rattle.x_steps.proofs.machine.Machine.pass_all.Goals as goal

pub returns : goal.returns
returns g c = passed _ _ _ _ _ c.open_past.ensures c.give_up.ensures
