use Rattle.cover_problem.proofs.laws.choice_is_first_shortest.Goals as goal
use Rattle.cover_problem.proofs.RemainingLemmas.{choice_active, choice_least, choice_before}

pub returns : goal.returns
returns c = record { active = choice_active; least = choice_least; first = choice_before }
