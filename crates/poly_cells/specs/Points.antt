-- Points with integer coordinates: where matrices act, and where a translation may lead anywhere.
--
-- Example: the cell 1 0 0, translated by -2 0 0, is the point -1 0 0 (proofs/ShapeExamples.antt).
use Rattle.std.specs.Prelude.{ℤ, pos, ◌+ℤ◌}
use Rattle.poly_cells.specs.Coordinates.{Coordinates}

-- a triple of integers
pub record Point : Type 0 where
  pub x : ℤ
  pub y : ℤ
  pub z : ℤ

-- the point of these coordinates
abbrev pub point_at : ℤ → ℤ → ℤ → Point
point_at x y z = record { x = x; y = y; z = z }

-- a cell's triple as a point
abbrev pub point : Coordinates → Point
point v = point_at (pos v.x) (pos v.y) (pos v.z)

-- the point v, translated by d
abbrev pub translated : Point → Point → Point
translated d v = point_at (v.x +ℤ d.x) (v.y +ℤ d.y) (v.z +ℤ d.z)
