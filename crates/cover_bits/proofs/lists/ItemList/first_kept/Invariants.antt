use Rattle.std.proofs.Common.{◌≡◌, ◌≤◌, ◌<◌, ◌*◌, ◌-◌, ℕ, false, length}
use Rattle.cover_bits.specs.Bits.{in_list}
use Rattle.cover_bits.proofs.lists.ItemList.first_kept.Given as goal

abbrev pub invariant-loop-option : goal.invariant-loop-option
invariant-loop-option l = record {
  from : l.initial.start ≤ l.start;
  before : (j : ℕ) → l.initial.start ≤ j → j < l.start → in_list l.self j ≡ false;
}

abbrev pub decreases-loop-option : goal.decreases-loop-option
decreases-loop-option l = 64 * length l.self.column.now - l.start
