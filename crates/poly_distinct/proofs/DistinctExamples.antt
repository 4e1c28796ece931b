-- The example of specs/Distinct.antt, computed.
use Rattle.std.proofs.Common.{◌≡◌, ◌==◌, cond, ℕ, List, [], ◌∷◌, refl, true, false}
use Rattle.poly_cells.specs.Coordinates.{Coordinates, coordinates}
use Rattle.poly_cells.specs.Symmetries.{matrix, is_rotation, rotations}
use Rattle.poly_cells.specs.Sets.{in_order}
use Rattle.poly_cells.specs.Shapes.{normal, turned}
use Rattle.poly_texts.specs.declared.usage.Usage.TheVariants as usages
use Rattle.poly_texts.specs.Kinds.{KindValue, form_of, kind_with}
use Rattle.poly_texts.specs.Puzzle.{PuzzleValue, puzzle_from, pieces_of, maybe_names, any_names, mirrored_names, equal_names, spare_names}
use Rattle.poly_place.specs.declared.alike.Group.TheVariants.{Rotations}
use Rattle.poly_place.specs.Placements.{orientations, placements}
use Rattle.poly_place.specs.Packings.{every_choice, leavings, choice_with, a_piece, a_cell}
use Rattle.poly_place.specs.ClassCount.{image_in}
use Rattle.poly_place.specs.Forms.{carrier}
use Rattle.poly_distinct.specs.Form.{with_noted}
use Rattle.poly_distinct.specs.Moves.{kept_at}
use Rattle.poly_distinct.specs.Distinct.{image_of, allowed, choices_left, numbers_left, whole_path, images_counted, are_mirrors}

-- one piece with this name and these cells, which has to be used
abbrev pub once_piece : ℕ → List Coordinates → KindValue
once_piece name cells = kind_with (form_of usages.Once false 0) (name ∷ []) cells

-- the pieces A of two cells and B of one, for a row of three cells: AAB and BAA
abbrev pub row : PuzzleValue
row = puzzle_from (once_piece 65 (coordinates 0 0 0 ∷ coordinates 1 0 0 ∷ []) ∷ once_piece 66 (coordinates 0 0 0 ∷ []) ∷ []) (coordinates 0 0 0 ∷ coordinates 1 0 0 ∷ coordinates 2 0 0 ∷ []) []

-- half a turn brings A to the other end
moved : image_of row.region 5 (coordinates 0 0 0 ∷ coordinates 1 0 0 ∷ []) ≡ coordinates 1 0 0 ∷ coordinates 2 0 0 ∷ []
unfolding image_in matrix in_order
moved = refl

-- the rotations of the row, all of which keep A
its_symmetries : allowed row Rotations false (λ name. name) (a_piece 65) ≡ 0 ∷ 3 ∷ 5 ∷ 6 ∷ 9 ∷ 10 ∷ 12 ∷ 15 ∷ []
unfolding allowed image_in matrix is_rotation turned normal in_order
its_symmetries = refl

-- those that keep the first cell
of_a_cell : allowed row Rotations false (λ name. name) (a_cell (coordinates 0 0 0)) ≡ 0 ∷ 3 ∷ 9 ∷ 10 ∷ []
unfolding allowed image_in matrix is_rotation turned normal in_order
of_a_cell = refl

-- half a turn brings the places of its cells to the places from the other end
its_carrier : carrier row.region 5 ≡ 2 ∷ 1 ∷ 0 ∷ []
unfolding image_in matrix
its_carrier = refl

-- all leave the cell between where it is
of_the_centre : kept_at row Rotations (a_cell (coordinates 1 0 0)) ≡ 0 ∷ 3 ∷ 5 ∷ 6 ∷ 9 ∷ 10 ∷ 12 ∷ 15 ∷ []
unfolding kept_at image_in matrix is_rotation turned normal in_order
of_the_centre = refl

-- A at the first two cells, and B anywhere
its_choices : choices_left row (a_piece 65) (0 ∷ 5 ∷ []) ≡ choice_with 65 (coordinates 0 0 0 ∷ coordinates 1 0 0 ∷ []) ∷ choice_with 66 (coordinates 0 0 0 ∷ []) ∷ choice_with 66 (coordinates 1 0 0 ∷ []) ∷ choice_with 66 (coordinates 2 0 0 ∷ []) ∷ []
unfolding choices_left every_choice pieces_of maybe_names any_names mirrored_names equal_names spare_names placements orientations in_order turned normal rotations is_rotation matrix image_in
its_choices = refl

its_numbers : numbers_left row (a_piece 65) (0 ∷ 5 ∷ []) ≡ 1 ∷ 3 ∷ 4 ∷ 5 ∷ []
unfolding every_choice pieces_of maybe_names any_names mirrored_names equal_names spare_names leavings placements orientations in_order turned normal rotations is_rotation matrix image_in
its_numbers = refl

-- its only exact cover is 1 4, which is AAB and stands for two packings
its_path : whole_path row (a_piece 65) (0 ∷ 5 ∷ []) (1 ∷ 4 ∷ []) ≡ 1 ∷ 5 ∷ []
unfolding every_choice pieces_of maybe_names any_names mirrored_names equal_names spare_names leavings placements orientations in_order turned normal rotations is_rotation matrix image_in
its_path = refl

pub stands_for_two : images_counted row (a_piece 65) (0 ∷ 5 ∷ []) ((1 ∷ 5 ∷ []) ∷ []) ≡ 2
unfolding images_counted every_choice pieces_of maybe_names any_names mirrored_names equal_names spare_names placements orientations in_order turned normal rotations is_rotation matrix image_in
stands_for_two = refl

-- ---- mirror images

-- a screw of four cells, and its mirror image
abbrev screw : List Coordinates
screw = coordinates 0 0 0 ∷ coordinates 1 0 0 ∷ coordinates 1 1 0 ∷ coordinates 1 1 1 ∷ []

abbrev other_screw : List Coordinates
other_screw = coordinates 0 0 1 ∷ coordinates 1 0 1 ∷ coordinates 1 1 0 ∷ coordinates 1 1 1 ∷ []

-- the puzzle of the screw alone, for the region of its cells
abbrev alone : PuzzleValue
alone = puzzle_from (once_piece 65 screw ∷ []) screw []

-- with its mirror image as another piece
abbrev both : PuzzleValue
both = puzzle_from (once_piece 65 screw ∷ once_piece 66 other_screw ∷ []) screw []

-- where it may be reflected
abbrev mirrored : PuzzleValue
mirrored = puzzle_from (kind_with (form_of usages.Once true 0) (65 ∷ []) screw ∷ []) screw []

-- 65 and 66 exchanged
abbrev exchange : ℕ → ℕ
exchange name = cond (name == 65) 66 (cond (name == 66) 65 name)

no_mirror : are_mirrors alone (λ name. name) ≡ false
unfolding are_mirrors pieces_of maybe_names any_names mirrored_names equal_names spare_names turned normal in_order matrix is_rotation
no_mirror = refl

its_mirror : are_mirrors both exchange ≡ true
unfolding are_mirrors pieces_of maybe_names any_names mirrored_names equal_names spare_names turned normal in_order matrix is_rotation
its_mirror = refl

-- with their own names they aren't mirrored
not_itself : are_mirrors both (λ name. name) ≡ false
unfolding are_mirrors pieces_of maybe_names any_names mirrored_names equal_names spare_names turned normal in_order matrix is_rotation
not_itself = refl

-- a screw that may be reflected needs no other one
may_be_reflected : are_mirrors mirrored (λ name. name) ≡ true
unfolding are_mirrors pieces_of maybe_names any_names mirrored_names equal_names spare_names turned normal in_order matrix is_rotation
may_be_reflected = refl

-- after 2 0 2 1: what is noted keeps its place, and what isn't is noted
noted_again : with_noted (0 ∷ 4 ∷ 1 ∷ 0 ∷ []) 2 5 ≡ 0 ∷ 4 ∷ 1 ∷ 0 ∷ []
noted_again = refl

noted_first : with_noted (0 ∷ 4 ∷ 1 ∷ 0 ∷ []) 3 5 ≡ 0 ∷ 4 ∷ 1 ∷ 5 ∷ []
noted_first = refl
