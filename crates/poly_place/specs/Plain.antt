-- The problem of a plain puzzle, said without equal pieces, pieces used any number of times and pieces that may be reflected: its items,
-- with their names, and its options. It is the problem that the definition with them gives.
use Rattle.std.specs.Prelude.{◌≡◌, ℕ, ◌+◌, ◌||◌, List, [], ◌∷◌, ◌++◌, map, filter, flat_map, length, not}
use Rattle.std.specs.List.{list_any}
use Rattle.poly_cells.specs.Symmetries.{rotations}
use Rattle.cover_problem.specs.Problem.{ProblemValue}
use Rattle.poly_texts.specs.Puzzle.{PuzzleValue, names_of, has_name, pieces_of, maybe_names, any_names, mirrored_names, equal_names}
use Rattle.poly_place.specs.Placements.{placements}
use Rattle.poly_place.specs.Packings.{ChoiceValue, choice_with, must_fill, Thing, a_piece, a_cell, index_among, thing_name, packing_problem}
use Rattle.poly_cells.specs.Coordinates.{Coordinates}

-- ---- the problem of such a puzzle, without what is of equal, repeated and reflected pieces

-- the required pieces and cells
abbrev pub plain_needed : PuzzleValue → List Thing
plain_needed p = map a_piece (filter (λ n. not (has_name (maybe_names p) n)) (names_of (pieces_of p))) ++ map a_cell (filter (must_fill p) p.region)

-- and then the others
abbrev pub plain_things : PuzzleValue → List Thing
plain_things p = plain_needed p ++ (map a_piece (maybe_names p) ++ map a_cell p.maybe_cells)

-- the option of a choice: its piece and its cells
abbrev pub plain_option : PuzzleValue → ChoiceValue → List ℕ
plain_option p c = map (λ t. index_among t (plain_things p) + 1) (a_piece c.name ∷ map a_cell c.cells)

-- what may be chosen: the placements by rotations, those of a piece that may be left out where they fill a required cell
abbrev pub plain_choices : PuzzleValue → List ChoiceValue
plain_choices p =
    flat_map (λ (n : ℕ × List Coordinates).
    filter (λ c. not (has_name (maybe_names p) c.name) || list_any (must_fill p) c.cells) (map (choice_with (n.0)) (placements rotations (n.1) p.region))) (pieces_of p)

-- the problem of all of them
abbrev pub plain_problem : PuzzleValue → ProblemValue
plain_problem p = record {
  names = map thing_name (plain_things p);
  primary = length (plain_needed p);
  options = map (plain_option p) (plain_choices p);
}

-- a puzzle without such pieces
pub record IsPlainPuzzle (p : PuzzleValue) : Type 0 where
  pub none_any : (any_names p) ≡ []
  pub none_mirrored : (mirrored_names p) ≡ []
  pub none_equal : (equal_names p) ≡ []

-- its problem is that one
abbrev pub PlainStay : Type 0
PlainStay = (p : PuzzleValue) → IsPlainPuzzle p → packing_problem p ≡ plain_problem p
