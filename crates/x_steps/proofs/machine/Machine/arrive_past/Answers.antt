use Rattle.x_steps.proofs.ResumeLemmas.{passed}
use Rattle.x_steps.proofs.machine.Machine.arrive_past.Goals as goal

pub returns : goal.returns
returns g c = passed _ _ _ _ _ c.cover_item.ensures c.give_up.ensures
