use Rattle.std.proofs.Common.{◌≡◌, ◌≤◌, ◌+◌, ◌*◌, ◌-◌, ℕ, List, length}
use Rattle.cover_bits.specs.Bits.{IsListOf}
use Rattle.cover_bits.proofs.GoneLemmas.{above_count}
use Rattle.cover_bits.proofs.lists.ItemList.count_each.Given as goal

abbrev pub invariant-loop-option : goal.invariant-loop-option
invariant-loop-option l = record {
  few : l.count ≤ l.start;
  within : l.start ≤ 64 * length l.self.column.now;
  counted : (xs : List ℕ) → IsListOf xs l.self → l.count + above_count l.start xs ≡ length xs;
}

abbrev pub decreases-loop-option : goal.decreases-loop-option
decreases-loop-option l = 64 * length l.self.column.now - l.start
