use Rattle.std.proofs.Common.{◌≡◌, ℕ, ◌<◌, length}
use Rattle.lab_book.specs.Tiling.{tile_at}
use Rattle.lab_book.proofs.tiles.find.Given as goal

abbrev pub invariant-finding : goal.invariant-finding
invariant-finding l = (k : ℕ) → k < length l.list → k < l.place → (tile_at l.list k).id ≡ l.id → ⊥
