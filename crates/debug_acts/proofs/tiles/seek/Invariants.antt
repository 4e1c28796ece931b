use Rattle.std.proofs.Common.{ℕ, ◌≤◌, ◌-◌, length}
use Rattle.debug_acts.specs.Tiles.{given_cut, BeginsAt}
use Rattle.debug_acts.proofs.tiles.seek.Given as goal

abbrev pub invariant-seeking : goal.invariant-seeking
invariant-seeking l = (l.high ≤ length l.book.tiles) × ((i : ℕ) → BeginsAt (given_cut l.lo) l.book.tiles i → (l.low ≤ i) × (i ≤ l.high))

abbrev pub decreases-seeking : goal.decreases-seeking
decreases-seeking l = l.high - l.low
