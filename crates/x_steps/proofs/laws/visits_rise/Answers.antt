use Rattle.x_steps.proofs.laws.visits_rise.Goals as goal
use Rattle.x_steps.proofs.VisitLemmas.{visits_rise}

pub returns : goal.returns
returns c = visits_rise
