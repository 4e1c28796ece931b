use Rattle.lab_world.proofs.WorldLemmas.{fresh_is_world}
use Rattle.lab_world.proofs.world.World.on_book.Goals as goal

pub invariant_of-result : goal.invariant_of-result
invariant_of-result g c = fresh_is_world c.args.book c.args.workers c.in-Ok.workers.items c.in-Ok.ensures c.requires.some c.requires.few
