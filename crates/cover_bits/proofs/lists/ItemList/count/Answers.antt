use Rattle.cover_bits.proofs.GoneLemmas.{places_within}
use Rattle.cover_bits.proofs.lists.ItemList.count.Goals as goal

pub count_both-requires-clause-within : goal.count_both-requires-clause-within
count_both-requires-clause-within c = places_within c.args.self.now c.requires
