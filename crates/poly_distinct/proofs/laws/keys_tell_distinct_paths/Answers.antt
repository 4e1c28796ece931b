use Rattle.poly_distinct.proofs.KeysTellLemmas.{by_keys}
use Rattle.poly_distinct.proofs.laws.keys_tell_distinct_paths.Goals as goal

pub returns : goal.returns
returns c = λ p group carriers paths z all. by_keys p z group carriers all paths
