use Rattle.std.proofs.Common.{ℕ, ◌<◌, subst}
use Rattle.std.specs.Prelude.{All}
use Rattle.lab_world.specs.declared.event.WorldEvent.{WorldEvent}
use Rattle.lab_memory_tests.proofs.world_tests.play.Goals as goal

pub play-requires : goal.play-requires
play-requires c = subst (λ (n : ℕ). All (λ (e : WorldEvent). e.worker < n) c.args.events.now) c.workers.ensures (c.have_workers.ensures.0 c.if-not-have_workers.false)
