use Rattle.std.proofs.Common.{◌-◌, ◌<◌, ◌≤◌}
use Rattle.std.specs.Option.{ForSome}
use Rattle.x_steps.specs.StateValue.{done}
use Rattle.x_steps.specs.Rank.{rank}
use Rattle.x_steps.specs.Run.{steps_between}
use Rattle.polylab_engine.specs.Searcher.{stands}
use Rattle.polylab_engine.proofs.SearchLemmas.{Searches}
use Rattle.polylab_engine.proofs.SoonLemmas.{FewerBefore}
use Rattle.polylab_engine.proofs.stretch.walk_to_stop.Given as goal

abbrev pub invariant-loop-alloc : goal.invariant-loop-alloc
invariant-loop-alloc g l =
    Searches l.bounds.keeps (stands l.fn.searcher).problem (stands l.fn.searcher).state l.bounds.end.now l.bounds.most (stands l.searcher) l.tally l.counts.items l.room l.left
    × (0 < l.room)
    × ForSome l.bounds.first (λ n. l.tally.visited ≤ n)
    × FewerBefore (stands l.fn.searcher).problem (stands l.fn.searcher).state l.bounds.first (steps_between (stands l.fn.searcher).problem (stands l.fn.searcher).state (stands l.searcher).state)
    × (0 < l.paced)

abbrev pub decreases-loop-alloc : goal.decreases-loop-alloc
decreases-loop-alloc g l = rank (stands l.fn.searcher).problem done - rank (stands l.fn.searcher).problem (stands l.searcher).state
