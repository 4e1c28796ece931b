-- The examples of specs/CellTests.antt, computed.
use Rattle.std.proofs.Common.{◌≡◌, [], ◌∷◌, true, false, refl}
use Rattle.poly_cells.specs.Coordinates.{coordinates}
use Rattle.poly_cells.specs.CellTests.{is_same, has_cell, is_in_grid}

the_second : is_same (coordinates 3 0 0) (coordinates 0 1 0) ≡ false
the_second = refl

one_of_two : has_cell (coordinates 0 1 0 ∷ coordinates 3 0 0 ∷ []) (coordinates 3 0 0) ≡ true
one_of_two = refl

at_the_edge : is_in_grid (coordinates 31 0 7) ≡ true
at_the_edge = refl

past_the_edge : is_in_grid (coordinates 0 32 0) ≡ false
past_the_edge = refl
