use Rattle.kept_counts.proofs.laws.steps_follow_from_paths_and_visits.Goals as goal
use Rattle.kept_counts.proofs.OwedLemmas.{steps_follow}

pub returns : goal.returns
returns c = steps_follow
