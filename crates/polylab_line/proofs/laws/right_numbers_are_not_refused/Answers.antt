use Rattle.polylab_line.proofs.laws.right_numbers_are_not_refused.Goals as goal
use Rattle.polylab_line.proofs.LawLemmas.{right_number}

pub returns : goal.returns
returns c = right_number
