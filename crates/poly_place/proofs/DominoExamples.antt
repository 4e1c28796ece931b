-- Two dominoes in the box 2 2 1, computed: the problem, its four packings, and their classes. Crates above cite it for what they write.
use Rattle.std.proofs.Common.{◌≡◌, ℕ, List, [], ◌∷◌, ◌++◌, map, codes, refl, false}
use Rattle.cover_problem.specs.Problem.{ProblemValue}
use Rattle.poly_cells.specs.Coordinates.{Coordinates, coordinates}
use Rattle.poly_cells.specs.Symmetries.{matrix, is_rotation, rotations}
use Rattle.poly_cells.specs.Sets.{in_order}
use Rattle.poly_cells.specs.Shapes.{normal, turned}
use Rattle.poly_texts.specs.declared.usage.Usage.TheVariants as usages
use Rattle.poly_texts.specs.Kinds.{form_of, kind_with}
use Rattle.poly_texts.specs.Puzzle.{PuzzleValue, puzzle_from, pieces_of, maybe_names, any_names, mirrored_names, equal_names, copy_symbols, spare_names}
use Rattle.poly_place.specs.declared.alike.Group.TheVariants.{Rotations, Symmetries}
use Rattle.poly_place.specs.Placements.{orientations, placements}
use Rattle.poly_place.specs.Packings.{every_choice, leavings, thing_item, packing_problem}
use Rattle.poly_place.specs.Chosen.{packing_value}
use Rattle.poly_place.specs.Layers.{layers}
use Rattle.poly_place.specs.ClassCount.{image_in, carries, are_alike, class_count}

abbrev domino : List Coordinates
domino = coordinates 0 0 0 ∷ coordinates 1 0 0 ∷ []

-- the dominoes A and B, and the box
abbrev pub dominoes : PuzzleValue
dominoes =
    puzzle_from (kind_with (form_of usages.Once false 0) (65 ∷ []) domino ∷ kind_with (form_of usages.Once false 0) (66 ∷ []) domino ∷ [])
    (coordinates 0 0 0 ∷ coordinates 0 1 0 ∷ coordinates 1 0 0 ∷ coordinates 1 1 0 ∷ []) []

-- the items are A, B and the cells 000, 010, 100 and 110; each piece has four options
abbrev pub boxed : ProblemValue
boxed = record {
  names = codes "A" ∷ codes "B" ∷ codes "000" ∷ codes "010" ∷ codes "100" ∷ codes "110" ∷ [];
  primary = 6;
  options =
      (1 ∷ 3 ∷ 4 ∷ []) ∷ (1 ∷ 3 ∷ 5 ∷ []) ∷ (1 ∷ 4 ∷ 6 ∷ []) ∷ (1 ∷ 5 ∷ 6 ∷ [])
      ∷ (2 ∷ 3 ∷ 4 ∷ []) ∷ (2 ∷ 3 ∷ 5 ∷ []) ∷ (2 ∷ 4 ∷ 6 ∷ []) ∷ (2 ∷ 5 ∷ 6 ∷ []) ∷ [];
}

pub boxed_dominoes : packing_problem dominoes ≡ boxed
unfolding pieces_of maybe_names any_names mirrored_names equal_names copy_symbols spare_names packing_problem every_choice leavings thing_item placements orientations in_order turned normal rotations is_rotation matrix
boxed_dominoes = refl

-- A stands on the left, above, below, and on the right
pub on_the_left : layers (packing_value dominoes (1 ∷ 8 ∷ [])) ≡ codes "AB" ++ 10 ∷ codes "AB" ++ 10 ∷ []
unfolding pieces_of maybe_names any_names mirrored_names equal_names copy_symbols spare_names layers every_choice placements orientations in_order turned normal rotations is_rotation matrix
on_the_left = refl

pub above : layers (packing_value dominoes (2 ∷ 7 ∷ [])) ≡ codes "AA" ++ 10 ∷ codes "BB" ++ 10 ∷ []
unfolding pieces_of maybe_names any_names mirrored_names equal_names copy_symbols spare_names layers every_choice placements orientations in_order turned normal rotations is_rotation matrix
above = refl

pub below : layers (packing_value dominoes (3 ∷ 6 ∷ [])) ≡ codes "BB" ++ 10 ∷ codes "AA" ++ 10 ∷ []
unfolding pieces_of maybe_names any_names mirrored_names equal_names copy_symbols spare_names layers every_choice placements orientations in_order turned normal rotations is_rotation matrix
below = refl

pub on_the_right : layers (packing_value dominoes (4 ∷ 5 ∷ [])) ≡ codes "BA" ++ 10 ∷ codes "BA" ++ 10 ∷ []
unfolding pieces_of maybe_names any_names mirrored_names equal_names copy_symbols spare_names layers every_choice placements orientations in_order turned normal rotations is_rotation matrix
on_the_right = refl

-- the paths of the four packings
abbrev pub paths : List (List ℕ)
paths = (1 ∷ 8 ∷ []) ∷ (2 ∷ 7 ∷ []) ∷ (3 ∷ 6 ∷ []) ∷ (4 ∷ 5 ∷ []) ∷ []

-- turns carry each of them onto the first one
pub one_by_rotations : class_count (are_alike Rotations) (map (packing_value dominoes) paths) ≡ 1
unfolding pieces_of maybe_names any_names mirrored_names equal_names copy_symbols spare_names class_count are_alike carries image_in every_choice placements orientations in_order turned normal rotations is_rotation matrix
one_by_rotations = refl

pub one_by_symmetries : class_count (are_alike Symmetries) (map (packing_value dominoes) paths) ≡ 1
unfolding pieces_of maybe_names any_names mirrored_names equal_names copy_symbols spare_names class_count are_alike carries image_in every_choice placements orientations in_order turned normal rotations is_rotation matrix
one_by_symmetries = refl
