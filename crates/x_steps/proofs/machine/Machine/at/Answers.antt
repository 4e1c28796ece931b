use Rattle.x_steps.proofs.ResumeLemmas.{down_first}
use Rattle.x_steps.proofs.machine.Machine.at.Goals as goal

pub reach-requires : goal.reach-requires
reach-requires g c = down_first _ _ _ _ _ _ _ c.in-Ok-new.ensures.at_first c.begin.ensures c.in-Ok.ensures c.items.ensures.count c.deref_mut.ensures.value
