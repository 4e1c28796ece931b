use Rattle.std.proofs.Common.{◌+◌, length, take}
use Rattle.poly_distinct.specs.Counts.{AreCounts}
use Rattle.poly_distinct.proofs.counts.count_options.Given as goal

-- the options so far are counted
abbrev pub invariant-loop-k : goal.invariant-loop-k
invariant-loop-k l = AreCounts (length l.problem.names + 1) (λ option. option) (take l.k l.problem.options) l.counts
