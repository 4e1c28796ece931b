use Rattle.poly_distinct.proofs.NewLemmas.{one_of_each}
use Rattle.poly_distinct.proofs.laws.distinct_paths_are_one_of_each.Goals as goal

pub returns : goal.returns
returns c = λ p group paths z m. one_of_each p z group paths m
