-- Placements of a piece in a region: the sets of region cells that are the piece turned by one of some symmetries and then translated.
--
-- Example: in the box 2 2 1 the piece 0 0 0, 1 0 0 has four placements: 0 0 0 with 0 1 0, 0 0 0 with 1 0 0, 0 1 0 with
-- 1 1 0, and 1 0 0 with 1 1 0, in this order (proofs/PlacementExamples.antt).
use Rattle.std.specs.Prelude.{ℕ, ◌<◌, Bool, cond, ◌&&◌, nat_le, List, [], ◌∷◌, map, length}
use Rattle.std.specs.List.{list_all, flat_map, range_with_len}
use Rattle.std.specs.List.Sorted.{IsStrictlySortedBy}
use Rattle.std.specs.Cmp.Lexicographic.{slice_cmp}
use Rattle.std.specs.declared.cmp.Ordering.{Ordering}
use Rattle.poly_cells.specs.Coordinates.{Coordinates, coordinates_cmp}
use Rattle.poly_cells.specs.CellTests.{has_cell}
use Rattle.poly_cells.specs.Points.{Point}
use Rattle.poly_cells.specs.Symmetries.{rotations}
use Rattle.poly_cells.specs.Sets.{IsIn, in_order}
use Rattle.poly_cells.specs.Shapes.{IsShape, moved, moved_back, turned}
use Rattle.poly_cells.specs.Images.{IsImage}
use Rattle.poly_place.specs.declared.alike.Group.{Group}
use Rattle.poly_place.specs.declared.alike.Group.TheVariants.{Rotations, Symmetries}

-- sets of cells are ordered as lists of cells
abbrev pub cells_cmp : List Coordinates → List Coordinates → Ordering
cells_cmp = slice_cmp coordinates_cmp

-- a set of region cells to which one of the symmetries and then a translation bring the piece
pub record IsPlacement (turns : List ℕ) (piece region set : List Coordinates) : Type 0 where
  pub symmetry : ℕ
  pub by : Point
  pub turned : IsIn symmetry turns
  pub image : IsImage symmetry by piece set
  pub inside : (c : Coordinates) → IsIn c set → IsIn c region

-- exactly the placements, each once, in order
pub record ArePlacements (turns : List ℕ) (piece region : List Coordinates) (sets : List (List Coordinates)) : Type 0 where
  pub rises : IsStrictlySortedBy cells_cmp sets
  pub sound : (set : List Coordinates) → IsIn set sets → IsStrictlySortedBy coordinates_cmp set × IsPlacement turns piece region set
  pub complete : (set : List Coordinates) → IsStrictlySortedBy coordinates_cmp set → 0 < length set → IsPlacement turns piece region set
      → IsIn set sets

-- ---- the list of the placements

-- no coordinate of v is above that of w
abbrev pub is_below : Coordinates → Coordinates → Bool
is_below v w = nat_le v.x w.x && (nat_le v.y w.y && nat_le v.z w.z)

-- the set, where each of its cells is inside
abbrev pub if_inside : (Coordinates → Bool) → List Coordinates → List (List Coordinates)
if_inside inside set = cond (list_all inside set) (set ∷ []) []

-- these cells moved by the coordinates of another, where each is then inside
abbrev pub moved_inside : (Coordinates → Bool) → Coordinates → List Coordinates → List (List Coordinates)
moved_inside inside by cells = if_inside inside (map (moved by) cells)

-- the piece moved up so that its first cell comes to c, where that is possible and each cell is then inside
abbrev pub at_cell : (Coordinates → Bool) → List Coordinates → Coordinates → List (List Coordinates)
at_cell inside [] c = []
at_cell inside (f ∷ fs) c = cond (is_below f c) (moved_inside inside (moved_back f c) (f ∷ fs)) []

-- the piece with its first cell at each of the cells in turn
abbrev pub at_cells : (Coordinates → Bool) → List Coordinates → List Coordinates → List (List Coordinates)
at_cells inside cells piece = flat_map (at_cell inside piece) cells

-- each of these forms of a piece with its first cell at each of the cells in turn
abbrev pub forms_at : (Coordinates → Bool) → List Coordinates → List (List Coordinates) → List (List Coordinates)
forms_at inside cells forms = flat_map (at_cells inside cells) forms

-- the turned forms of the piece by these symmetries, in order, each once
unfoldable pub orientations : List ℕ → List Coordinates → List (List Coordinates)
orientations turns piece = in_order cells_cmp (map (λ n. turned n piece) turns)

-- the placements by these symmetries, in order, each once
unfoldable pub placements : List ℕ → List Coordinates → List Coordinates → List (List Coordinates)
placements turns piece region = in_order cells_cmp (forms_at (has_cell region) region (orientations turns piece))

-- all symmetries
abbrev pub symmetries : List ℕ
symmetries = range_with_len 0 48

-- those of the group, in order
abbrev pub turns_by : Group → List ℕ
turns_by Rotations = rotations
turns_by Symmetries = symmetries

-- the list of any shape in any other, by any symmetries, has exactly the placements
abbrev pub ListsPlacements : Type 0
ListsPlacements =
    (turns : List ℕ) (piece region : List Coordinates) → IsShape piece → IsShape region → ArePlacements turns piece region (placements turns piece region)
