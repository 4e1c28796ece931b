use Rattle.x_branches.proofs.laws.test_is_order.Goals as goal
use Rattle.x_branches.proofs.CutLemmas.{test_is_order}

pub returns : goal.returns
returns c = test_is_order
