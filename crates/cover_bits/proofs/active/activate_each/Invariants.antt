use Rattle.std.proofs.Common.{◌≡◌, ℕ, ◌+◌, ◌&&◌, ◌||◌, nat_lt, length, take}
use Rattle.shared_words.specs.Lists.{has}
use Rattle.cover_bits.specs.Parts.{in_row}
use Rattle.cover_bits.proofs.active.activate_each.Given as goal

abbrev pub invariant-loop-item : goal.invariant-loop-item
invariant-loop-item l = record {
  long : length l.active ≡ length l.initial.active;
  each : (k : ℕ) → in_row l.active k ≡ (in_row l.initial.active k || (nat_lt k l.primary && has (take l.item-index l.items) (k + 1)));
}
