use Rattle.std.proofs.Common.{◌≡◌, ℕ, nat_lt, length}
use Rattle.cover_bits.specs.Parts.{in_row}
use Rattle.cover_bits.proofs.making.add_below.Given as goal

abbrev pub invariant-loop-number : goal.invariant-loop-number
invariant-loop-number l = record {
  long : length l.row ≡ length l.initial.row;
  each : (k : ℕ) → in_row l.row k ≡ nat_lt k l.number;
}
