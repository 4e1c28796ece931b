use Rattle.x_steps.proofs.laws.levels_are_trimmed.Goals as goal
use Rattle.x_steps.proofs.ZeroLemmas.{zeros_cut, last_counts}

pub returns : goal.returns
returns c = record { zeros = zeros_cut; last = last_counts }
