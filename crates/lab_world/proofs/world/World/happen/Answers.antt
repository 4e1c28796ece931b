use Rattle.std.proofs.Common.{refl}
use Rattle.lab_world.proofs.WorldLemmas.{happened_here}
use Rattle.lab_world.proofs.world.World.happen.Goals as goal

pub invariant_of-self : goal.invariant_of-self
invariant_of-self g c =
    let within = rw (← c.self.view_is) at c.requires in
    happened_here (record { book = c.self.inside.book; workers = c.self.inside.workers.items })
    c.args.event.now c.take_turn.result c.take_turn.new.book _ c.take_turn.new.seat c.index_mut.result.now c.index_mut.ensures.value
    c.is_sound.ensures.tiling within c.self.invariant c.take_turn.ensures.turned c.take_turn.ensures.book c.take_turn.ensures.unchanged refl
