use Rattle.std.proofs.Common.{◌≡◌, replicate}
use Rattle.polylab_engine.proofs.tally.no_counts.Given as goal

abbrev pub invariant-loop : goal.invariant-loop
invariant-loop l = l.counts.items ≡ replicate l.counter 0
