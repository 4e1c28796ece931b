-- Cells as triples of coordinates, and their order.
--
-- Example: 0 2 1 comes before 1 0 0, and 1 0 0 before 1 0 3 (proofs/CoordinateExamples.antt).
use Rattle.std.specs.Prelude.{ℕ, ◌≤◌}
use Rattle.std.specs.Ordering.{nat_cmp, ordering_then}
use Rattle.std.specs.declared.cmp.Ordering.{Ordering}

-- a triple of coordinates
pub record Coordinates : Type 0 where
  pub x : ℕ
  pub y : ℕ
  pub z : ℕ

-- the triple of these coordinates
abbrev pub coordinates : ℕ → ℕ → ℕ → Coordinates
coordinates x y z = record { x = x; y = y; z = z }

-- each coordinate is from 0 to 31
pub record IsInGrid (v : Coordinates) : Type 0 where
  pub x_in : v.x ≤ 31
  pub y_in : v.y ≤ 31
  pub z_in : v.z ≤ 31

-- the order of cells: by x, then by y, then by z
abbrev pub coordinates_cmp : Coordinates → Coordinates → Ordering
coordinates_cmp v w = ordering_then (nat_cmp v.x w.x) (ordering_then (nat_cmp v.y w.y) (nat_cmp v.z w.z))
