use Rattle.poly_place.proofs.WalkLemmas.{item_in}
use Rattle.poly_place.proofs.room.entries_with.Goals as goal

pub size_of-requires-clause-member : goal.size_of-requires-clause-member
size_of-requires-clause-member c = c.requires.members c.choice-item.result (item_in c.args.list.now c.loop-choice.choice-index c.choice-item.result c.loop-choice-test.true c.choice-item.is)
