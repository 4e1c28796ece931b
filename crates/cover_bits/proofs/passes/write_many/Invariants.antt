use Rattle.std.proofs.Common.{◌≤◌, ◌-◌, length, take, drop}
use Rattle.cover_bits.specs.Bits.{IsNextSet}
use Rattle.cover_bits.proofs.passes.write_many.Given as goal

abbrev pub invariant-loop-base : goal.invariant-loop-base
invariant-loop-base l = record {
  from : l.initial.base ≤ l.base;
  within : l.base ≤ length l.covered;
  written : IsNextSet l.words l.initial.base l.base l.columns (drop l.initial.base (take l.base l.covered)) l.initial.parts l.parts l.initial.counts l.counts;
}

abbrev pub decreases-loop-base : goal.decreases-loop-base
decreases-loop-base l = length l.covered - l.base
