use Rattle.std.proofs.Common.{◌≡◌, ◌++◌, ◌-◌, ℕ, map, ◌≤◌, ◌⊎◌}
use Rattle.std.specs.List.{range_with_len}
use Rattle.std.specs.String.{string_bytes}
use Rattle.text_lines.specs.Writing.{spaced}
use Rattle.poly_cells.specs.Coordinates.{Coordinates}
use Rattle.poly_place.specs.Layers.{AreSymbols, row_symbols}
use Rattle.poly_place.proofs.layer.push_line.Given as goal

-- the words up to z are added
abbrev pub invariant-loop-z : goal.invariant-loop-z
invariant-loop-z l = record {
  added : (f : Coordinates → ℕ) → AreSymbols f l.symbols
      → string_bytes l.text ≡ string_bytes l.initial.text ++ spaced (map (row_symbols f l.low l.high l.y) (range_with_len l.low.z (l.z - l.low.z)));
  end : (l.z ≤ l.z-end) ⊎ (l.z ≡ l.low.z);
}
