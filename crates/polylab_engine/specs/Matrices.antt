-- Matrices of integers, by their rows: the symmetries of the cube are those that are orthogonal, and the rotations among them have the
-- determinant 1.
--
-- Example: the rows 0 -1 0, 1 0 0 and 0 0 1 are a rotation, which sends the point 1 0 0 to 0 1 0 (proofs/MatrixExamples.antt).
use Rattle.std.specs.Prelude.{◌≡◌, ℤ, pos, ◌+ℤ◌, ◌-ℤ◌, ◌*ℤ◌}
use Rattle.poly_cells.specs.Points.{Point, point_at}

-- a matrix, by its three rows
pub record IntegerMatrix : Type 0 where
  pub first : Point
  pub second : Point
  pub third : Point

-- the sum of the products of the coordinates
abbrev pub dot : Point → Point → ℤ
dot u v = u.x *ℤ v.x +ℤ u.y *ℤ v.y +ℤ u.z *ℤ v.z

-- each row has the length 1, and any two are at right angles
pub record IsOrthogonal (m : IntegerMatrix) : Type 0 where
  pub one : dot m.first m.first ≡ pos 1
  pub two : dot m.second m.second ≡ pos 1
  pub three : dot m.third m.third ≡ pos 1
  pub one_two : dot m.first m.second ≡ pos 0
  pub two_three : dot m.second m.third ≡ pos 0
  pub one_three : dot m.first m.third ≡ pos 0

-- the point to which the matrix sends v
abbrev pub sent_to : IntegerMatrix → Point → Point
sent_to m v = point_at (dot m.first v) (dot m.second v) (dot m.third v)

-- the determinant, by the first row
abbrev pub determinant_of : IntegerMatrix → ℤ
determinant_of m =
    m.first.x *ℤ (m.second.y *ℤ m.third.z -ℤ m.second.z *ℤ m.third.y)
    -ℤ m.first.y *ℤ (m.second.x *ℤ m.third.z -ℤ m.second.z *ℤ m.third.x)
    +ℤ m.first.z *ℤ (m.second.x *ℤ m.third.y -ℤ m.second.y *ℤ m.third.x)
