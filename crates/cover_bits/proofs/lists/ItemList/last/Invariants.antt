use Rattle.std.proofs.Common.{◌≡◌, ◌≤◌, ◌<◌, ℕ, false}
use Rattle.cover_bits.specs.Bits.{in_list}
use Rattle.cover_bits.proofs.lists.ItemList.last.Given as goal

abbrev pub invariant-loop-option : goal.invariant-loop-option
invariant-loop-option l = record {
  below : l.end ≤ l.initial.end;
  after : (j : ℕ) → l.end ≤ j → j < l.initial.end → in_list l.self j ≡ false;
}

abbrev pub decreases-loop-option : goal.decreases-loop-option
decreases-loop-option l = l.end
