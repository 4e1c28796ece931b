use Rattle.std.proofs.Common.{◌≡◌, ◌++◌, ◌-◌, ℕ, map, ◌≤◌, ◌⊎◌}
use Rattle.std.specs.List.{range_with_len}
use Rattle.std.specs.String.{string_bytes}
use Rattle.text_lines.specs.Writing.{text_of}
use Rattle.poly_cells.specs.Coordinates.{Coordinates}
use Rattle.poly_place.specs.Layers.{AreSymbols, layer_words}
use Rattle.poly_place.proofs.layer.push_lines.Given as goal

-- the lines up to y are added
abbrev pub invariant-loop-y : goal.invariant-loop-y
invariant-loop-y l = record {
  added : (f : Coordinates → ℕ) → AreSymbols f l.symbols
      → string_bytes l.text ≡ string_bytes l.initial.text ++ text_of (map (layer_words f l.low l.high) (range_with_len l.low.y (l.y - l.low.y)));
  end : (l.y ≤ l.y-end) ⊎ (l.y ≡ l.low.y);
}
