-- The examples of specs/Shapes.antt, specs/Images.antt and specs/Points.antt, computed.
use Rattle.std.proofs.Common.{◌≡◌, Bool, false, List, [], ◌∷◌, map, length, filter, pos, negsuc, refl}
use Rattle.std.specs.List.{range_with_len, list_any}
use lib.Pointwise.{pointwise}
use Rattle.poly_cells.specs.Coordinates.{Coordinates, coordinates}
use Rattle.poly_cells.specs.CellTests.{is_same}
use Rattle.poly_cells.specs.Points.{point, point_at, translated}
use Rattle.poly_cells.specs.Symmetries.{matrix, is_rotation, rotations}
use Rattle.poly_cells.specs.Sets.{in_order}
use Rattle.poly_cells.specs.Shapes.{corner, normal, turned}

abbrev pair : List Coordinates
pair = coordinates 1 0 0 ∷ coordinates 2 0 0 ∷ []

its_corner : corner pair ≡ coordinates 1 0 0
its_corner = refl

moved_to_the_origin : normal pair ≡ coordinates 0 0 0 ∷ coordinates 1 0 0 ∷ []
unfolding normal
moved_to_the_origin = refl

translated_by_one : map point pair ≡ map (λ (v : Coordinates). translated (point_at (pos 1) (pos 0) (pos 0)) (point v)) (normal pair)
unfolding normal
translated_by_one = refl

past_the_origin : translated (point_at (negsuc 1) (pos 0) (pos 0)) (point (coordinates 1 0 0)) ≡ point_at (negsuc 0) (pos 0) (pos 0)
past_the_origin = refl

-- rotation 4 lays a row along y down along z
laid_along_z : turned 9 (coordinates 0 0 0 ∷ coordinates 0 1 0 ∷ []) ≡ coordinates 0 0 0 ∷ coordinates 0 0 1 ∷ []
unfolding matrix in_order normal turned
laid_along_z = refl

abbrev same : List Coordinates → List Coordinates → Bool
same vs ws = pointwise is_same vs ws

-- the square of four cells comes onto itself by 16 symmetries
abbrev square : List Coordinates
square = coordinates 0 0 0 ∷ coordinates 0 1 0 ∷ coordinates 1 0 0 ∷ coordinates 1 1 0 ∷ []

sixteen : length (filter (λ n. same (turned n square) (normal square)) (range_with_len 0 48)) ≡ 16
unfolding matrix in_order normal turned
sixteen = refl

-- a screw of four cells is no rotation of its mirror image
no_rotation_of_its_mirror :
    list_any (λ n. same (turned n (coordinates 0 0 0 ∷ coordinates 0 1 0 ∷ coordinates 0 1 1 ∷ coordinates 1 0 0 ∷ [])) (coordinates 0 0 0 ∷ coordinates 0 1 0 ∷ coordinates 1 0 0 ∷ coordinates 1 0 1 ∷ [])) rotations ≡ false
unfolding matrix in_order normal turned is_rotation rotations
no_rotation_of_its_mirror = refl
