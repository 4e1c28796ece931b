use Rattle.x_steps.proofs.laws.visits_are_covers.Goals as goal
use Rattle.x_steps.proofs.VisitLemmas.{visits_are_covers}

pub returns : goal.returns
returns c = visits_are_covers
