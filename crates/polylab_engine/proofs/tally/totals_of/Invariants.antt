use Rattle.std.proofs.Common.{◌≡◌, take}
use Rattle.polylab_engine.proofs.tally.totals_of.Given as goal

abbrev pub invariant-loop-count : goal.invariant-loop-count
invariant-loop-count l = l.totals.items ≡ take l.count-index l.counts
