use Rattle.x_steps.proofs.MovingLemmas.{same_from_X5, label_in}
use Rattle.x_steps.proofs.machine.Machine.arrive_at_option.Goals as goal

pub turn-requires-clause-same : goal.turn-requires-clause-same
turn-requires-clause-same g c = same_from_X5 _ _ (label_in _ _ _ _ c.self.view_is c.in-X5.is)
