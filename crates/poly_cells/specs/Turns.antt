-- Symmetries on the cube of 32 x 32 x 32 cells: a minus sign reads a coordinate c from the other end, as 31 - c.
-- That is the matrix and then a translation, so a turned shape is the same up to where it lies (`AgreesWithMatrix` in Laws).
--
-- Example: symmetry 9 sends the cell 1 2 3 to 1 3 29 (proofs/SymmetryExamples.antt).
use Rattle.std.specs.Prelude.{ℕ, ◌-◌, Bool, cond}
use Rattle.poly_cells.specs.Coordinates.{Coordinates, coordinates}
use Rattle.poly_cells.specs.Symmetries.{pick, Matrix, matrix}

-- c, or c counted from the other end
abbrev pub mirrored : Bool → ℕ → ℕ
mirrored minus c = cond minus (31 - c) c

-- the cell to which the matrix turns v
abbrev pub turned_by : Matrix → Coordinates → Coordinates
turned_by m v =
    coordinates (mirrored m.minus_x (pick m.from_x v.x v.y v.z)) (mirrored m.minus_y (pick m.from_y v.x v.y v.z))
    (mirrored m.minus_z (pick m.from_z v.x v.y v.z))

-- the cell to which symmetry n turns v
abbrev pub turn : ℕ → Coordinates → Coordinates
turn n v = turned_by (matrix n) v
