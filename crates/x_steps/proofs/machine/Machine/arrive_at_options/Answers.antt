use Rattle.x_steps.proofs.ResumeLemmas.{same_at_X5}
use Rattle.x_steps.proofs.machine.Machine.arrive_at_options.Goals as goal

pub turn-requires-clause-same : goal.turn-requires-clause-same
turn-requires-clause-same g c = same_at_X5 _ _ _ _ _ c.cover_item.ensures
