use Rattle.x_steps.proofs.laws.one_predecessor.Goals as goal
use Rattle.x_steps.proofs.RunLemmas.{none_before, one_predecessor}

pub returns : goal.returns
returns c = record { none = none_before; one = one_predecessor }
