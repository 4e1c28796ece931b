-- The example of specs/Matrices.antt, computed.
use Rattle.std.proofs.Common.{◌≡◌, refl, pos, negsuc}
use Rattle.poly_cells.specs.Points.{point_at}
use Rattle.polylab_engine.specs.Matrices.{IntegerMatrix, IsOrthogonal, sent_to, determinant_of}

-- a quarter turn about the third axis
abbrev quarter : IntegerMatrix
quarter = record { first = point_at (pos 0) (negsuc 0) (pos 0); second = point_at (pos 1) (pos 0) (pos 0); third = point_at (pos 0) (pos 0) (pos 1) }

is_orthogonal : IsOrthogonal quarter
is_orthogonal = record { one = refl; two = refl; three = refl; one_two = refl; two_three = refl; one_three = refl }

is_rotation : determinant_of quarter ≡ pos 1
is_rotation = refl

turns : sent_to quarter (point_at (pos 1) (pos 0) (pos 0)) ≡ point_at (pos 0) (pos 1) (pos 0)
turns = refl
