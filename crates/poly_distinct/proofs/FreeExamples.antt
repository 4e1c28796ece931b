-- The example of specs/Free.antt, computed.
use Rattle.std.proofs.Common.{◌≡◌, [], ◌∷◌, true, false, refl}
use Rattle.poly_cells.specs.Coordinates.{coordinates}
use Rattle.poly_cells.specs.Symmetries.{matrix, is_rotation, rotations}
use Rattle.poly_cells.specs.Sets.{in_order}
use Rattle.poly_cells.specs.Shapes.{normal, turned}
use Rattle.poly_texts.specs.Puzzle.{PuzzleValue, pieces_of, maybe_names, any_names, mirrored_names, equal_names, spare_names}
use Rattle.poly_place.specs.declared.alike.Group.TheVariants.{Rotations}
use Rattle.poly_place.specs.Placements.{orientations, placements}
use Rattle.poly_place.specs.Packings.{every_choice, leavings, packing_problem, thing_item, a_piece}
use Rattle.poly_place.specs.ClassCount.{image_in}
use Rattle.poly_distinct.specs.Distinct.{are_mirrors}
use Rattle.poly_distinct.specs.Exchange.{mirror_name, has_mirrors}
use Rattle.poly_distinct.specs.Moves.{kept_at}
use Rattle.poly_distinct.specs.Rule.{anchor_of}
use Rattle.poly_distinct.specs.UpTo.{each_stands}
use Rattle.poly_distinct.specs.Free.{acts_freely, carriers_by, region_symmetries, carrier_count, have_own_cells, acts_freely_at}
use Rattle.poly_distinct.proofs.DistinctExamples.{once_piece, row}

-- the row as it is, and from the other end
its_ways : carriers_by row.region (region_symmetries row Rotations) ≡ (0 ∷ 1 ∷ 2 ∷ []) ∷ (2 ∷ 1 ∷ 0 ∷ []) ∷ []
unfolding image_in matrix is_rotation turned normal in_order
its_ways = refl

-- no two choices have the same cells
own_cells : have_own_cells row ≡ true
unfolding have_own_cells every_choice pieces_of maybe_names any_names mirrored_names equal_names spare_names placements orientations in_order turned normal rotations is_rotation matrix image_in
own_cells = refl

-- two pieces of one cell have
abbrev twice : PuzzleValue
twice = record row { kinds = once_piece 65 (coordinates 0 0 0 ∷ []) ∷ once_piece 66 (coordinates 0 0 0 ∷ []) ∷ [] }

no_own_cells : have_own_cells twice ≡ false
unfolding have_own_cells every_choice pieces_of maybe_names any_names mirrored_names equal_names spare_names placements orientations in_order turned normal rotations is_rotation matrix image_in
no_own_cells = refl

-- A is brought to both ends, and B, in the middle, to itself
free_at_two : acts_freely_at row Rotations (a_piece 65) (0 ∷ 5 ∷ []) ≡ true
unfolding acts_freely_at carrier_count have_own_cells every_choice pieces_of maybe_names any_names mirrored_names equal_names spare_names placements orientations in_order turned normal rotations is_rotation matrix image_in
free_at_two = refl

not_free_at_one : acts_freely_at row Rotations (a_piece 66) (0 ∷ 5 ∷ []) ≡ false
unfolding acts_freely_at carrier_count have_own_cells every_choice pieces_of maybe_names any_names mirrored_names equal_names spare_names placements orientations in_order turned normal rotations is_rotation matrix image_in
not_free_at_one = refl

-- A is the anchor that the rule finds
pub free_by_rule : acts_freely row Rotations ≡ true
unfolding acts_freely anchor_of each_stands carrier_count have_own_cells kept_at has_mirrors are_mirrors mirror_name packing_problem thing_item every_choice pieces_of maybe_names any_names mirrored_names equal_names spare_names leavings placements orientations in_order turned normal rotations is_rotation matrix image_in
free_by_rule = refl
