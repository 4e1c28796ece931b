use Rattle.std.proofs.Common.{length}
use Rattle.part_sums.proofs.EndLemmas.{IsPassed}
use Rattle.part_sums.proofs.tail.up_to_end.Given as goal

-- no line so far is `end`
abbrev pub invariant-loop-line : goal.invariant-loop-line
invariant-loop-line l = IsPassed l.text l.rest

abbrev pub decreases-loop-line : goal.decreases-loop-line
decreases-loop-line l = length l.rest
