use Rattle.x_steps.proofs.laws.stretches_are_of_the_run.Goals as goal
use Rattle.x_steps.proofs.StretchLemmas.{states_between_each, states_of_run, visits_of_run}

pub returns : goal.returns
returns c = record { each = states_between_each; run = states_of_run; visits = visits_of_run }
