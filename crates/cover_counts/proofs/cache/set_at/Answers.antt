use Rattle.cover_counts.proofs.KeptLemmas.{true_set}
use Rattle.cover_counts.proofs.cache.set_at.Goals as goal

pub returns-then-place-len : goal.returns-then-place-len
returns-then-place-len c = λ p a t. true_set p _ c.args.place c.args.slot a t
