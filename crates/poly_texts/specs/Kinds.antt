-- A kind of pieces: what one line of a puzzle text says.
--
-- Example: `mirror copies AB+C 100 200` says the equal pieces A, B and C, of which C may be left out, each with the cells 0 0 0 and 1 0 0,
-- and that they may be reflected. proofs/KindExamples.antt computes what is told of them.
use Rattle.std.specs.Prelude.{ℕ, ◌-◌, ◌==◌, ◌≡◌, ◌≤◌, nat_lt, Bool, true, ◌&&◌, ◌||◌, List, [], ◌∷◌, map, take, drop, length, if◌then◌else◌}
use Rattle.std.specs.List.{list_all}
use Rattle.poly_cells.specs.Coordinates.{Coordinates}
use Rattle.poly_cells.specs.Shapes.{IsShape}
use Rattle.poly_cells.specs.Images.{IsAtOrigin}
use Rattle.poly_texts.specs.Limits.{most_piece_cells}
use Rattle.poly_texts.specs.declared.usage.Usage.{Usage}
use Rattle.poly_texts.specs.declared.form.Form.{Form}
use Rattle.poly_texts.specs.Usages.{is_maybe, is_repeatable, are_copies, are_so_many, may_spare, pieces_named}
use Rattle.poly_texts.specs.Words.{is_name}

-- the symbols of the line; how many of the last ones name spare copies, which may be left out; the cells of each piece; how the pieces are
-- used; and whether they may be reflected
pub record KindValue : Type 0 where
  pub symbols : List ℕ
  pub spare : ℕ
  pub cells : List Coordinates
  pub usage : Usage
  pub mirrored : Bool

-- what the words before and after the symbols say
abbrev pub form_of : Usage → Bool → ℕ → Form
form_of usage mirrored spare = record { usage = usage; is_mirrored = mirrored; spare = spare }

-- the kind of this form, with these symbols and cells
abbrev pub kind_with : Form → List ℕ → List Coordinates → KindValue
kind_with form symbols cells = record { symbols = symbols; spare = form.spare; cells = cells; usage = form.usage; mirrored = form.is_mirrored }

-- *what is told of its pieces*

-- a piece of this shape for each name
abbrev pub named_shapes : List ℕ → List Coordinates → List (ℕ × List Coordinates)
named_shapes names shape = map (λ n. (n, shape)) names

-- these, if it is so
abbrev pub given_if : {X : Type 0} → Bool → List X → List X
given_if there xs = if there then xs else []

-- the names of its pieces
abbrev pub kind_names : KindValue → List ℕ
kind_names k = pieces_named k.usage k.symbols

-- its pieces
abbrev pub kind_pieces : KindValue → List (ℕ × List Coordinates)
kind_pieces k = named_shapes (kind_names k) k.cells

-- the name of a piece that may be left out
abbrev pub kind_maybe : KindValue → List ℕ
kind_maybe k = given_if (is_maybe k.usage) (kind_names k)

-- the name of a piece that may be used any number of times
abbrev pub kind_any : KindValue → List ℕ
kind_any k = given_if (is_repeatable k.usage) (kind_names k)

-- the names of pieces that may be reflected
abbrev pub kind_mirrored : KindValue → List ℕ
kind_mirrored k = given_if k.mirrored (kind_names k)

-- the group of equal pieces
abbrev pub kind_equal : KindValue → List (List ℕ)
kind_equal k = given_if (are_copies k.usage) (k.symbols ∷ [])

-- the symbols by which the copies of a piece that may be used any number of times are shown in turn, if there are two at least
abbrev pub kind_copies : KindValue → List (List ℕ)
kind_copies k = given_if (is_repeatable k.usage && nat_lt 1 (length k.symbols)) (k.symbols ∷ [])

-- the symbols before those of spare copies
abbrev pub kind_needed : KindValue → List ℕ
kind_needed k = take (length k.symbols - k.spare) k.symbols

-- the names of spare copies
abbrev pub kind_spare : KindValue → List ℕ
kind_spare k = drop (length k.symbols - k.spare) k.symbols

-- no packing has to use a piece of it
abbrev pub is_unneeded : KindValue → Bool
is_unneeded k = is_maybe k.usage || (is_repeatable k.usage || (k.spare == length k.symbols))

-- *what every kind is*

-- the cells of a piece: from 1 to 64 of them, rising, each within the limits; the least x, the least y and the least z are 0
pub record IsPiece (cells : List Coordinates) : Type 0 where
  pub shape : IsShape cells
  pub few : length cells ≤ most_piece_cells
  pub origin : IsAtOrigin cells

-- letters and digits, as many as the line may have, of which so many may be spare
pub record IsKind (k : KindValue) : Type 0 where
  pub named : list_all is_name k.symbols ≡ true
  pub many : are_so_many k.usage (length k.symbols) ≡ true
  pub spares : may_spare k.usage k.spare (length k.symbols) ≡ true
  pub piece : IsPiece k.cells
