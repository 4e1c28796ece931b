use Rattle.x_steps.proofs.laws.run_length.Goals as goal
use Rattle.x_steps.proofs.Length.{run_length}

pub returns : goal.returns
returns c = run_length
