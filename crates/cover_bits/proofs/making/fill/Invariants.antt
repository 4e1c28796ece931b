use Rattle.std.proofs.Common.{◌≡◌, length, take}
use Rattle.cover_bits.specs.Bits.{full_set}
use Rattle.cover_bits.proofs.making.fill.Given as goal

abbrev pub invariant-loop-place : goal.invariant-loop-place
invariant-loop-place l = record {
  long : length l.parts ≡ length l.initial.parts;
  parts : take l.place l.parts ≡ full_set l.count l.place;
}
