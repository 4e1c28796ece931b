use Rattle.cover_counts.proofs.cache.Cache.replace.Goals as goal

pub returns-else-used-self : goal.returns-else-used-self
returns-else-used-self c = λ p a t. c.set_at-else-used-self.ensures p a tt
