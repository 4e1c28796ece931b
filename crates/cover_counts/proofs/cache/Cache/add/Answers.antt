use Rattle.cover_counts.proofs.KeptLemmas.{true_pushed}
use Rattle.cover_counts.proofs.cache.Cache.add.Goals as goal

pub returns-then-is_ok : goal.returns-then-is_ok
returns-then-is_ok c = λ p a t. true_pushed p _ _ _ _ c.push.ensures.items a t
