use Rattle.x_branches.proofs.laws.cuts_in_order.Goals as goal
use Rattle.x_branches.proofs.CutLemmas.{cuts_in_order}

pub returns : goal.returns
returns c = cuts_in_order
