use Rattle.x_steps.proofs.ResumeLemmas.{same_at, label_at}
use Rattle.x_steps.proofs.machine.Machine.arrive_uncovered.Goals as goal

pub turn-requires-clause-same : goal.turn-requires-clause-same
turn-requires-clause-same g c = same_at _ _ _ (label_at _ _ _ c.uncover_item.ensures) c.requires.not_X5 c.requires.not_X6 c.requires.not_X7
