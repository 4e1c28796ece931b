use Rattle.std.proofs.Common.{◌≡◌, ◌≤◌, ◌++◌, ◌-◌, ℕ, map, ◌⊎◌}
use Rattle.std.specs.List.{range_with_len}
use Rattle.std.specs.String.{string_bytes}
use Rattle.poly_cells.specs.Coordinates.{Coordinates, coordinates}
use Rattle.poly_place.specs.Layers.{AreSymbols}
use Rattle.poly_place.proofs.layer.push_row.Given as goal

-- the symbols up to x are added
abbrev pub invariant-loop-x : goal.invariant-loop-x
invariant-loop-x l = record {
  added : (f : Coordinates → ℕ) → AreSymbols f l.symbols → string_bytes l.text ≡ string_bytes l.initial.text ++ map (λ x. f (coordinates x l.y l.z)) (range_with_len (l.fn.ends.0) (l.x - l.fn.ends.0));
  end : (l.x ≤ l.x-end) ⊎ (l.x ≡ l.fn.ends.0);
}
