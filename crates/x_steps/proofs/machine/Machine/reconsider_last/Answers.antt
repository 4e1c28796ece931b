use Rattle.x_steps.proofs.BackLemmas.{came_last}
use Rattle.x_steps.proofs.machine.Machine.reconsider_last.Goals as goal

pub return_to-requires-clause-came : goal.return_to-requires-clause-came
return_to-requires-clause-came g c = came_last _ _ c.requires.label c.requires.cursor c.last_left-before.ensures
