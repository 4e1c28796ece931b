use Rattle.std.proofs.Common.{◌≡◌, ℕ, ◌+◌, ◌-◌, ◌*◌, ◌==◌, ◌||◌, length, take}
use Rattle.std.specs.List.{list_any}
use Rattle.cover_bits.specs.Parts.{in_row}
use Rattle.cover_bits.proofs.making.note.Given as goal

abbrev pub invariant-loop-item : goal.invariant-loop-item
invariant-loop-item l = record {
  long : length l.columns ≡ length l.initial.columns;
  each : (k : ℕ) → in_row l.columns k ≡ (in_row l.initial.columns k || list_any (λ i. k == (i - 1) * (64 * l.words) + l.place) (take l.item-index l.option));
}
