use Rattle.std.proofs.Common.{ℕ, length}
use Rattle.part_sums.specs.Taking.{AreTaken}
use Rattle.part_sums.proofs.parts.Joining.take_parts.Given as goal

-- some parts were taken
abbrev pub invariant-loop-rest : goal.invariant-loop-rest
invariant-loop-rest l = (n : ℕ) × AreTaken l.head n l.fn.self l.parts l.self l.rest

abbrev pub decreases-loop-rest : goal.decreases-loop-rest
decreases-loop-rest l = length l.rest
