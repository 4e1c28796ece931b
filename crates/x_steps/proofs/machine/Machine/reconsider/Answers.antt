use Rattle.x_steps.proofs.BackLemmas.{came_before}
use Rattle.x_steps.proofs.machine.Machine.reconsider.Goals as goal

pub return_to-requires-clause-came : goal.return_to-requires-clause-came
return_to-requires-clause-came g c = came_before _ _ _ c.requires.label c.requires.cursor c.option_before-before.ensures
