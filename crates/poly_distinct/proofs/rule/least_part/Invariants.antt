use Rattle.std.proofs.Common.{◌<◌}
use Rattle.poly_distinct.proofs.BestLemmas.{IsLeastPart}
use Rattle.poly_distinct.proofs.rule.least_part.Given as goal

-- none so far keeps less of its choices than the one at the place
abbrev pub invariant-loop-k : goal.invariant-loop-k
invariant-loop-k l = (l.best < l.k) × IsLeastPart l.tallies l.k l.best
