use Rattle.x_steps.proofs.laws.steps_lie_between.Goals as goal
use Rattle.x_steps.proofs.RunLemmas.{steps_between_is}
use Rattle.x_steps.proofs.StretchLemmas.{none_back, one_way}

pub returns : goal.returns
returns c = record { reached = steps_between_is; none_back = none_back; one_way = one_way }
