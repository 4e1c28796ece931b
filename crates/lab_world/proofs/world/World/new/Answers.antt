use Rattle.lab_world.proofs.WorldLemmas.{fresh_is_world}
use Rattle.lab_world.proofs.world.World.new.Goals as goal

pub invariant_of-result : goal.invariant_of-result
invariant_of-result g c = fresh_is_world c.in_ok-book.book c.args.workers c.in_ok-workers.workers.items
    c.in_ok-workers.ensures c.requires.some c.requires.few
