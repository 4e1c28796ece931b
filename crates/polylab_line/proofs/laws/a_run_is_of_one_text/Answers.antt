use Rattle.polylab_line.proofs.laws.a_run_is_of_one_text.Goals as goal
use Rattle.polylab_line.proofs.LawLemmas.{one_text}

pub returns : goal.returns
returns c = one_text
