-- The example of specs/Packings.antt, computed; and two equal pieces of one cell, one that may be used any number of times, and one that may
-- be reflected.
use Rattle.std.proofs.Common.{◌≡◌, ◌≤◌, ℕ, List, [], ◌∷◌, length, inl, inr, refl, sym, subst, arith, true, false}
use Rattle.std.proofs.lemmas.Bool.{le-leb}
use Rattle.std.specs.List.Sorted.{IsStrictlySortedBy}
use Rattle.poly_cells.specs.Coordinates.{Coordinates, IsInGrid, coordinates, coordinates_cmp}
use Rattle.poly_cells.specs.Symmetries.{matrix, is_rotation, rotations}
use Rattle.poly_cells.specs.Sets.{IsIn, in_order}
use Rattle.poly_cells.specs.Shapes.{normal, turned}
use Rattle.poly_texts.specs.declared.usage.Usage.TheVariants as usages
use Rattle.poly_texts.specs.Kinds.{form_of, kind_with, IsPiece, IsKind}
use Rattle.poly_texts.specs.Puzzle.{PuzzleValue, puzzle_from, pieces_of, maybe_names, any_names, mirrored_names, equal_names, spare_names, AreKinds, IsPuzzle}
use Rattle.poly_place.specs.declared.alike.Group.TheVariants.{Rotations, Symmetries}
use Rattle.poly_place.specs.Placements.{orientations, placements, turns_by}
use Rattle.poly_place.specs.Packings.{every_choice, leavings, thing_item, tree_levels, levels_for, leaves_room, packing_problem, choice_with, a_piece, a_cell}
use Rattle.poly_place.specs.Chosen.{chosen_by}

-- the pieces A and B of one cell each, for the region 0 0 0, 1 0 0: B may be left out, and 1 0 0 may stay empty
abbrev pub pair : PuzzleValue
pair =
    puzzle_from (kind_with (form_of usages.Once false 0) (65 ∷ []) (coordinates 0 0 0 ∷ []) ∷ kind_with (form_of usages.Maybe false 0) (66 ∷ []) (coordinates 0 0 0 ∷ []) ∷ [])
    (coordinates 0 0 0 ∷ coordinates 1 0 0 ∷ []) (coordinates 1 0 0 ∷ [])

three_choices : every_choice pair ≡ choice_with 65 (coordinates 0 0 0 ∷ []) ∷ choice_with 65 (coordinates 1 0 0 ∷ []) ∷ choice_with 66 (coordinates 0 0 0 ∷ []) ∷ []
unfolding pieces_of maybe_names any_names mirrored_names equal_names spare_names every_choice placements orientations in_order turned normal rotations is_rotation matrix
three_choices = refl

third_item : thing_item pair (a_piece 66) ≡ 3
unfolding pieces_of maybe_names any_names mirrored_names equal_names spare_names thing_item
third_item = refl

last_item : thing_item pair (a_cell (coordinates 1 0 0)) ≡ 4
unfolding pieces_of maybe_names any_names mirrored_names equal_names spare_names thing_item
last_item = refl

-- the items A, 000, B and 100, of which A and 000 are primary, and the options A 000, A 100 and B 000
pair_problem : packing_problem pair ≡ record { names = (65 ∷ []) ∷ (48 ∷ 48 ∷ 48 ∷ []) ∷ (66 ∷ []) ∷ (49 ∷ 48 ∷ 48 ∷ []) ∷ []; primary = 2; options = (1 ∷ 2 ∷ []) ∷ (1 ∷ 4 ∷ []) ∷ (3 ∷ 2 ∷ []) ∷ [] }
unfolding pieces_of maybe_names any_names mirrored_names equal_names spare_names packing_problem every_choice leavings thing_item placements orientations in_order turned normal rotations is_rotation matrix
pair_problem = refl

-- the options 3 2, in the order of the pieces
its_packing : chosen_by pair (3 ∷ 2 ∷ []) ≡ choice_with 65 (coordinates 1 0 0 ∷ []) ∷ choice_with 66 (coordinates 0 0 0 ∷ []) ∷ []
unfolding pieces_of maybe_names any_names mirrored_names equal_names spare_names every_choice placements orientations in_order turned normal rotations is_rotation matrix
its_packing = refl

-- ---- equal pieces

abbrev pub one_cell : List Coordinates
one_cell = coordinates 0 0 0 ∷ []

abbrev pub row_of_two : List Coordinates
row_of_two = coordinates 0 0 0 ∷ coordinates 1 0 0 ∷ []

-- the equal pieces A and B of one cell each, for the region 0 0 0, 1 0 0
abbrev pub equals : PuzzleValue
equals = puzzle_from (kind_with (form_of usages.Copies false 0) (65 ∷ 66 ∷ []) one_cell ∷ []) row_of_two []

-- after 0 0 0 there is room for B, and after 1 0 0 there is none, unless B may be left out
leaves_one : leaves_room equals (choice_with 65 (coordinates 0 0 0 ∷ [])) ≡ true
unfolding equal_names spare_names
leaves_one = refl

leaves_none : leaves_room equals (choice_with 65 (coordinates 1 0 0 ∷ [])) ≡ false
unfolding equal_names spare_names
leaves_none = refl

nothing_needed : leaves_room (puzzle_from (kind_with (form_of usages.Copies false 1) (65 ∷ 66 ∷ []) one_cell ∷ []) row_of_two []) (choice_with 65 (coordinates 1 0 0 ∷ [])) ≡ true
unfolding equal_names spare_names
nothing_needed = refl

-- the items A, B, 000, 100 and A_001, of which all but the last are primary, and the options A 000, B 000 A_001 and B 100:
-- the one exact cover is A 000, B 100
its_problem : packing_problem equals ≡ record {
  names = (65 ∷ []) ∷ (66 ∷ []) ∷ (48 ∷ 48 ∷ 48 ∷ []) ∷ (49 ∷ 48 ∷ 48 ∷ []) ∷ (65 ∷ 95 ∷ 48 ∷ 48 ∷ 49 ∷ []) ∷ [];
  primary = 4;
  options = (1 ∷ 3 ∷ []) ∷ (2 ∷ 3 ∷ 5 ∷ []) ∷ (2 ∷ 4 ∷ []) ∷ [];
}
unfolding pieces_of maybe_names any_names mirrored_names equal_names spare_names packing_problem every_choice leavings thing_item tree_levels levels_for placements orientations in_order turned normal rotations is_rotation matrix
its_problem = refl

within : (x y z : ℕ) → x ≤ 31 → y ≤ 31 → z ≤ 31 → IsInGrid (coordinates x y z)
within x y z a b c = record { x_in = a; y_in = b; z_in = c }

pub one_limits : (v : Coordinates) → IsIn v one_cell → IsInGrid v
one_limits v (inl e) = subst IsInGrid (sym e) (within 0 0 0 (omega arith) (omega arith) (omega arith))
one_limits v (inr f) = absurd f

two_limits : (v : Coordinates) → IsIn v row_of_two → IsInGrid v
two_limits v (inl e) = subst IsInGrid (sym e) (within 0 0 0 (omega arith) (omega arith) (omega arith))
two_limits v (inr (inl e)) = subst IsInGrid (sym e) (within 1 0 0 (omega arith) (omega arith) (omega arith))
two_limits v (inr (inr f)) = absurd f

pub one_rises : IsStrictlySortedBy coordinates_cmp one_cell
unfolding IsStrictlySortedBy
one_rises = (tt, tt)

pub two_rise : IsStrictlySortedBy coordinates_cmp row_of_two
unfolding IsStrictlySortedBy
two_rise = ((refl, tt), (tt, tt))

pub none_rise : IsStrictlySortedBy coordinates_cmp []
unfolding IsStrictlySortedBy
none_rise = tt

pub is_a_piece : IsPiece one_cell
is_a_piece = record {
  shape = record { some = omega arith; rises = one_rises; limits = one_limits };
  few = omega arith;
  origin = record { x = (coordinates 0 0 0, inl refl, refl); y = (coordinates 0 0 0, inl refl, refl); z = (coordinates 0 0 0, inl refl, refl) };
}

-- equal pieces A and B of one cell each are a kind, with one of them spare or none
pub is_a_kind : (spare : ℕ) → spare ≤ 1 → IsKind (kind_with (form_of usages.Copies false spare) (65 ∷ 66 ∷ []) one_cell)
is_a_kind spare few = record { named = refl; many = refl; spares = le-leb spare 2 (omega (arith, few)); piece = is_a_piece }

pub are_kinds : (spare : ℕ) → spare ≤ 1 → AreKinds (kind_with (form_of usages.Copies false spare) (65 ∷ 66 ∷ []) one_cell ∷ [])
are_kinds spare few k (inl e) = subst IsKind (sym e) (is_a_kind spare few)
are_kinds spare few k (inr f) = absurd f

pub is_a_puzzle : IsPuzzle equals
unfolding pieces_of
is_a_puzzle = record {
  kinds_are = are_kinds 0 (omega arith);
  new = refl;
  some_piece = omega arith;
  few_pieces = omega arith;
  some_cell = omega arith;
  few = omega arith;
  rises = two_rise;
  limits = two_limits;
  maybe_rises = none_rise;
  maybe_within = refl;
  required = refl;
}

-- the piece A of one cell, which may be used any number of times: the items 000 and 100, and the options 000 and 100
abbrev any_cell : PuzzleValue
any_cell = puzzle_from (kind_with (form_of usages.Any false 0) (65 ∷ []) one_cell ∷ []) row_of_two []

any_problem : packing_problem any_cell ≡ record { names = (48 ∷ 48 ∷ 48 ∷ []) ∷ (49 ∷ 48 ∷ 48 ∷ []) ∷ []; primary = 2; options = (1 ∷ []) ∷ (2 ∷ []) ∷ [] }
unfolding pieces_of maybe_names any_names mirrored_names equal_names spare_names packing_problem every_choice leavings thing_item tree_levels levels_for placements orientations in_order turned normal rotations is_rotation matrix
any_problem = refl

-- the left screw has 12 turned forms, and 24 with those of its reflection
abbrev screw : List Coordinates
screw = coordinates 0 0 0 ∷ coordinates 0 0 1 ∷ coordinates 0 1 1 ∷ coordinates 1 0 0 ∷ []

turned_alone : length (orientations (turns_by Rotations) screw) ≡ 12
unfolding orientations in_order turned normal rotations is_rotation matrix
turned_alone = refl

reflected_too : length (orientations (turns_by Symmetries) screw) ≡ 24
unfolding orientations in_order turned normal rotations is_rotation matrix
reflected_too = refl
