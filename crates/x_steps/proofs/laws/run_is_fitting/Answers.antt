use Rattle.x_steps.proofs.laws.run_is_fitting.Goals as goal
use Rattle.x_steps.proofs.RunLemmas.{run_is_fitting}

pub returns : goal.returns
returns c = run_is_fitting
