-- Where the volume forces how often a piece is used: no cell may stay empty, no piece or copy may be left out, and one piece alone may be used any
-- number of times. What the others leave of the region it has to fill.
--
-- Example: dominoes alone fill a region of 36 cells with 18 copies.
use Rattle.std.specs.Prelude.{◌≡◌, ℕ, ◌+◌, ◌*◌, ◌==◌, Bool, true, not, ◌&&◌, List, [], ◌∷◌, filter, length}
use Rattle.std.specs.List.{sum_by}
use Rattle.poly_cells.specs.Coordinates.{Coordinates}
use Rattle.poly_cells.specs.Sets.{IsIn}
use Rattle.poly_texts.specs.Puzzle.{PuzzleValue, IsPuzzle, pieces_of, maybe_names, any_names, spare_names}
use Rattle.poly_place.specs.Packings.{ChoiceValue, IsPacking}
use Rattle.poly_place.specs.Chosen.{is_among}

-- the volume forces how often the piece with this name is used
pub record IsForced (p : PuzzleValue) (name : ℕ) (piece : List Coordinates) : Type 0 where
  pub filled : p.maybe_cells ≡ []
  pub used : (maybe_names p) ≡ []
  pub sure : (spare_names p) ≡ []
  pub any : (any_names p) ≡ name ∷ []
  pub named : IsIn (name, piece) (pieces_of p)

-- the pieces of other names
abbrev pub other_pieces : PuzzleValue → ℕ → List (ℕ × List Coordinates)
other_pieces p name = filter (λ q. not (q.0 == name)) (pieces_of p)

-- how many cells they have
abbrev pub other_cells : PuzzleValue → ℕ → ℕ
other_cells p name = sum_by (λ q. length (q.1)) (other_pieces p name)

-- how many of the choices are of the piece
abbrev pub copies_in : ℕ → List ChoiceValue → ℕ
copies_in name cs = length (filter (λ c. c.name == name) cs)

-- no choice comes twice
abbrev pub are_once : List ChoiceValue → Bool
are_once [] = true
are_once (c ∷ cs) = not (is_among cs c) && are_once cs

-- in each packing the copies of that piece have the cells that the other pieces leave
abbrev pub VolumeForces : Type 0
VolumeForces =
    (p : PuzzleValue) (name : ℕ) (piece : List Coordinates) (cs : List ChoiceValue) → IsPuzzle p → IsForced p name piece
    → are_once cs ≡ true → IsPacking p (is_among cs) → copies_in name cs * length piece + other_cells p name ≡ length p.region
