-- The packing for which an exact cover of a puzzle's problem stands, as a value: what is shown of it.
--
-- Example: in the puzzle of the pieces A and B of one cell each and the region 0 0 0, 1 0 0 the options 3 2 stand for A at 1 0 0
-- and B at 0 0 0 (proofs/PackingExamples.antt).
use Rattle.std.specs.Prelude.{◌≡◌, ℕ, ◌+◌, ◌-◌, ◌<◌, ◌==◌, nat_le, Bool, cond, ◌&&◌, List, [], ◌∷◌, map, filter, length, slice_index, slice_index_or, EachIndex}
use Rattle.std.specs.List.{list_any}
use Rattle.std.specs.List.Sorted.{IsNonDecreasingBy}
use Rattle.std.specs.Ordering.{is_eq, nat_cmp}
use Rattle.shared_words.specs.Lists.{has}
use Rattle.poly_cells.specs.Coordinates.{Coordinates}
use Rattle.poly_cells.specs.Sets.{in_order}
use Rattle.poly_texts.specs.Puzzle.{PuzzleValue, names_of, has_name, pieces_of, copy_symbols}
use Rattle.poly_place.specs.Placements.{cells_cmp}
use Rattle.poly_place.specs.Packings.{ChoiceValue, SetStandsFor, choice_with, choice_at, laying_count}

-- a packing: the region, the cells of it that may stay empty, a placement for each piece that is used, and the symbols that show the
-- copies of a piece in turn
pub record PackingValue : Type 0 where
  pub region : List Coordinates
  pub maybe_cells : List Coordinates
  pub placements : List ChoiceValue
  pub symbols : List (List ℕ)

-- whether two choices are the same
abbrev pub same_choice : ChoiceValue → ChoiceValue → Bool
same_choice c d = (c.name == d.name) && is_eq (cells_cmp c.cells d.cells)

-- whether the choice is one of these
abbrev pub is_among : List ChoiceValue → ChoiceValue → Bool
is_among cs c = list_any (same_choice c) cs

-- these options and these choices stand for each other
abbrev pub OptionsStandFor : PuzzleValue → List ℕ → List ChoiceValue → Type 0
OptionsStandFor p path cs = SetStandsFor p (has path) (is_among cs)

-- the names of the pieces of these choices
abbrev pub names_in : List ChoiceValue → List ℕ
names_in cs = map (λ c. c.name) cs

-- the names of the choices are those of the pieces that have one, in the order of the pieces
abbrev pub AreInPieceOrder : PuzzleValue → List ChoiceValue → Type 0
AreInPieceOrder p cs = names_in cs ≡ filter (has_name (names_in cs)) (names_of (pieces_of p))

-- how many come before the first x
abbrev pub place_in : List ℕ → ℕ → ℕ
place_in [] x = 0
place_in (y ∷ ys) x = cond (y == x) 0 (1 + place_in ys x)

-- no choice of a piece comes before one of an earlier piece
abbrev pub ComeByPiece : PuzzleValue → List ChoiceValue → Type 0
ComeByPiece p cs = IsNonDecreasingBy (λ c. place_in (names_of (pieces_of p)) c.name) cs

-- the choice numbered o, from 1 on
abbrev pub choice_numbered : List ChoiceValue → ℕ → ChoiceValue
choice_numbered cs o = slice_index_or cs (o - 1) (choice_with 0 [])

-- none of these numbers is 0
abbrev pub ArePositive : List ℕ → Type 0
ArePositive numbers = EachIndex numbers (λ i. 0 < slice_index numbers i)

-- the numbers that are those of choices
abbrev pub numbering : List ChoiceValue → List ℕ → List ℕ
numbering cs numbers = filter (λ o. nat_le o (length cs)) numbers

-- the options of these that lay a piece, in order
abbrev pub laying : PuzzleValue → List ℕ → List ℕ
laying p path = filter (λ o. nat_le o (laying_count p)) (in_order nat_cmp path)

-- the choices for which these options stand, in the order of the options, which is that of the pieces
abbrev pub chosen_by : PuzzleValue → List ℕ → List ChoiceValue
chosen_by p path = map (choice_at p) (laying p path)

-- the packing for which these options stand
abbrev pub packing_value : PuzzleValue → List ℕ → PackingValue
packing_value p path = record { region = p.region; maybe_cells = p.maybe_cells; placements = chosen_by p path; symbols = (copy_symbols p) }

-- the packings for which lists of options stand
abbrev pub packing_values : PuzzleValue → List (List ℕ) → List PackingValue
packing_values p paths = map (packing_value p) paths
