-- The examples of specs/Placements.antt, computed.
use Rattle.std.proofs.Common.{◌≡◌, List, [], ◌∷◌, true, false, Less, refl}
use Rattle.poly_cells.specs.Coordinates.{Coordinates, coordinates}
use Rattle.poly_cells.specs.Symmetries.{matrix, is_rotation, rotations}
use Rattle.poly_cells.specs.Sets.{in_order}
use Rattle.poly_cells.specs.Shapes.{normal, turned}
use Rattle.poly_cells.specs.CellTests.{has_cell}
use Rattle.poly_place.specs.Placements.{cells_cmp, at_cell, orientations, placements}
use Rattle.poly_place.specs.Tables.{has_bit}

abbrev row : List Coordinates
row = coordinates 0 0 0 ∷ coordinates 1 0 0 ∷ []

-- the box 2 2 1
abbrev square : List Coordinates
square = coordinates 0 0 0 ∷ coordinates 0 1 0 ∷ coordinates 1 0 0 ∷ coordinates 1 1 0 ∷ []

sets_in_order : cells_cmp (coordinates 0 0 0 ∷ coordinates 0 1 0 ∷ []) (coordinates 0 0 0 ∷ coordinates 1 0 0 ∷ []) ≡ Less
sets_in_order = refl

moved_to_its_place : at_cell (has_cell square) row (coordinates 0 1 0) ≡ (coordinates 0 1 0 ∷ coordinates 1 1 0 ∷ []) ∷ []
moved_to_its_place = refl

does_not_fit : at_cell (has_cell square) row (coordinates 1 0 0) ≡ []
does_not_fit = refl

lies_three_ways : orientations rotations row ≡ (coordinates 0 0 0 ∷ coordinates 0 0 1 ∷ []) ∷ (coordinates 0 0 0 ∷ coordinates 0 1 0 ∷ []) ∷ (coordinates 0 0 0 ∷ coordinates 1 0 0 ∷ []) ∷ []
unfolding orientations in_order turned normal rotations is_rotation matrix
lies_three_ways = refl

four_placements
    : placements rotations row square
    ≡ (coordinates 0 0 0 ∷ coordinates 0 1 0 ∷ []) ∷ (coordinates 0 0 0 ∷ coordinates 1 0 0 ∷ []) ∷ (coordinates 0 1 0 ∷ coordinates 1 1 0 ∷ []) ∷ (coordinates 1 0 0 ∷ coordinates 1 1 0 ∷ []) ∷ []
unfolding placements orientations in_order turned normal rotations is_rotation matrix
four_placements = refl

bit_of_a_cell : has_bit (false ∷ true ∷ []) (coordinates 0 0 1) ≡ true
bit_of_a_cell = refl

no_bit_beyond : has_bit (false ∷ true ∷ []) (coordinates 0 0 32) ≡ false
no_bit_beyond = refl
