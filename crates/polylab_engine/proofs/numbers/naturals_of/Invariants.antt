use Rattle.std.proofs.Common.{◌≡◌, take}
use Rattle.polylab_engine.proofs.numbers.naturals_of.Given as goal

abbrev pub invariant-loop-number : goal.invariant-loop-number
invariant-loop-number l = l.naturals.items ≡ take l.number-index l.numbers
