-- The examples of specs/Symmetries.antt, specs/Turns.antt and specs/Products.antt, computed.
use Rattle.std.proofs.Common.{◌≡◌, [], ◌∷◌, refl, pos, negsuc, take, slice_index}
use Rattle.poly_cells.specs.Coordinates.{coordinates}
use Rattle.poly_cells.specs.Points.{point_at}
use Rattle.poly_cells.specs.Symmetries.{matrix, sent_by, determinant, is_rotation, rotations}
use Rattle.poly_cells.specs.Turns.{turn}
use Rattle.poly_cells.specs.Products.{composed, inverse_of}

exchanges : sent_by 8 (point_at (pos 1) (pos 2) (pos 3)) ≡ point_at (pos 1) (pos 3) (pos 2)
unfolding matrix
exchanges = refl

-- rotation 4
turns_about_x : sent_by 9 (point_at (pos 1) (pos 2) (pos 3)) ≡ point_at (pos 1) (pos 3) (negsuc 1)
unfolding matrix
turns_about_x = refl

turns_a_cell : turn 9 (coordinates 1 2 3) ≡ coordinates 1 3 29
unfolding matrix
turns_a_cell = refl

first_rotations : take 8 rotations ≡ 0 ∷ 3 ∷ 5 ∷ 6 ∷ 9 ∷ 10 ∷ 12 ∷ 15 ∷ []
unfolding matrix is_rotation rotations
first_rotations = refl

an_exchange_is_no_rotation : determinant (matrix 8) ≡ negsuc 0
unfolding matrix
an_exchange_is_no_rotation = refl

twice_numbered : composed 9 9 ≡ 3
unfolding matrix composed
twice_numbered = refl

back_numbered : inverse_of 9 ≡ 10
unfolding matrix inverse_of
back_numbered = refl

-- a quarter turn twice is rotation 1
twice : composed 9 9 ≡ slice_index rotations 1
unfolding matrix is_rotation rotations composed
twice = refl

-- and its inverse is rotation 5
back : inverse_of 9 ≡ slice_index rotations 5
unfolding matrix is_rotation rotations inverse_of
back = refl
