use Rattle.x_branches.proofs.laws.untried_is_all.Goals as goal
use Rattle.x_branches.proofs.CutLemmas.{untried_all, above_reached}

pub returns : goal.returns
returns c = record { all = untried_all; reached = above_reached }
