use Rattle.std.proofs.Common.{take}
use Rattle.poly_distinct.specs.Counts.{AreMore}
use Rattle.poly_distinct.proofs.tally.add_at.Given as goal

-- one is added at the places so far
abbrev pub invariant-loop-place : goal.invariant-loop-place
invariant-loop-place l = AreMore l.initial.counts l.counts (take l.place-index l.places)
