-- Shapes: finite sets of cells as rising lists, their least corner, and the same shape moved or turned.
--
-- Example: the cells 1 0 0 and 2 0 0 have their least corner at 1 0 0; moved back by it they are 0 0 0 and 1 0 0
-- (proofs/ShapeExamples.antt).
use Rattle.std.specs.Prelude.{ℕ, ◌+◌, ◌-◌, ◌<◌, min, List, [], ◌∷◌, map, length}
use Rattle.std.specs.List.Sorted.{IsStrictlySortedBy}
use Rattle.poly_cells.specs.Coordinates.{Coordinates, coordinates, IsInGrid, coordinates_cmp}
use Rattle.poly_cells.specs.Turns.{turn}
use Rattle.poly_cells.specs.Sets.{IsIn, in_order}

-- each of the triples is within the limits
abbrev pub AllInGrid : List Coordinates → Type 0
AllInGrid vs = (v : Coordinates) → IsIn v vs → IsInGrid v

-- a rising list of at least one triple within the limits
pub record IsShape (vs : List Coordinates) : Type 0 where
  pub some : 0 < length vs
  pub rises : IsStrictlySortedBy coordinates_cmp vs
  pub limits : AllInGrid vs

-- the least of a coordinate, and 31 where there is no cell
abbrev pub least : (Coordinates → ℕ) → List Coordinates → ℕ
least part [] = 31
least part (v ∷ vs) = min (part v) (least part vs)

-- the least x, the least y and the least z
abbrev pub corner : List Coordinates → Coordinates
corner vs = coordinates (least (λ v. v.x) vs) (least (λ v. v.y) vs) (least (λ v. v.z) vs)

-- v, moved by d
abbrev pub moved : Coordinates → Coordinates → Coordinates
moved d v = coordinates (v.x + d.x) (v.y + d.y) (v.z + d.z)

-- v, moved back by d
abbrev pub moved_back : Coordinates → Coordinates → Coordinates
moved_back d v = coordinates (v.x - d.x) (v.y - d.y) (v.z - d.z)

-- the cells with their least corner moved to 0 0 0
unfoldable pub normal : List Coordinates → List Coordinates
normal vs = map (moved_back (corner vs)) vs

-- the images of the cells, in order, and with their least corner moved to 0 0 0
unfoldable pub turned : ℕ → List Coordinates → List Coordinates
turned n vs = normal (in_order coordinates_cmp (map (turn n) vs))
