use Rattle.cover_counts.proofs.KeptLemmas.{true_found}
use Rattle.cover_counts.proofs.cache.find_in.Goals as goal

pub returns-in-Some : goal.returns-in-Some
returns-in-Some c = λ p d a s k. c.kept_in.ensures p d (true_found p c.args.places.now _ c.in-Some.slot a _ c.get.ensures.lookup c.in-Some.is) s k
