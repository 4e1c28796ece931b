-- Tests on cells: whether two are the same, whether a list has one, and whether one is within the limits.
--
-- Example: of 0 1 0 and 3 0 0 the second is 3 0 0; 31 0 7 is within the limits and 0 32 0 isn't. proofs/CellTestExamples.antt
-- computes it.
use Rattle.std.specs.Prelude.{◌==◌, nat_le, Bool, ◌&&◌, List}
use Rattle.std.specs.List.{list_any}
use Rattle.poly_cells.specs.Coordinates.{Coordinates}

-- whether two cells have the same coordinates
abbrev pub is_same : Coordinates → Coordinates → Bool
is_same v w = (v.x == w.x) && ((v.y == w.y) && (v.z == w.z))

-- whether a cell is one of these
abbrev pub has_cell : List Coordinates → Coordinates → Bool
has_cell cells c = list_any (is_same c) cells

-- whether a cell is within the limits
abbrev pub is_in_grid : Coordinates → Bool
is_in_grid c = nat_le c.x 31 && (nat_le c.y 31 && nat_le c.z 31)
