-- What a packing of a puzzle is: pieces that are turned by symmetries of the cube, moved, and fill the region (`Packs`).
-- poly_place/specs/Packings.antt has the same with the numbers of symmetries in place of matrices; proofs/PackingLemmas.antt proves that.
--
-- Example: in the box 2 2 1 the domino 0 0 0, 1 0 0 fills 0 0 0 and 0 1 0, once the rotation of specs/Matrices.antt turns it.
use Rattle.std.specs.Prelude.{ℕ, ◌≡◌, ◌⊎◌, Bool, true, false, List, Contains, pos}
use Rattle.std.specs.List.Sorted.{IsStrictlySortedBy}
use Rattle.std.specs.declared.cmp.Ordering.TheVariants.{Less}
use Rattle.poly_cells.specs.Coordinates.{Coordinates, coordinates_cmp}
use Rattle.poly_cells.specs.Points.{Point, point, translated}
use Rattle.poly_texts.specs.Puzzle.{PuzzleValue, pieces_of, mirrored_names, names_of, has_name, is_needed, is_spare}
use Rattle.poly_place.specs.Packings.{ChoiceValue, is_any, pairs, first_cell, must_fill, IsUsed}
use Rattle.polylab_engine.specs.Matrices.{IntegerMatrix, IsOrthogonal, sent_to, determinant_of}

-- the cells are in the region, and are those to which a rotation m, or any symmetry where the piece may be reflected, and then a translation
-- by d bring the piece; and the piece is required, or fills one of the cells that have to be filled
pub record IsTurnedPiece (p : PuzzleValue) (c : ChoiceValue) : Type 0 where
  pub piece : List Coordinates
  pub m : IntegerMatrix
  pub d : Point
  pub named : Contains (pieces_of p) (c.name, piece)
  pub may_turn : IsOrthogonal m × ((determinant_of m ≡ pos 1) ⊎ (has_name (mirrored_names p) c.name ≡ true))
  pub onto : (w : Coordinates) → Contains c.cells w → (v : Coordinates) × Contains piece v × (point w ≡ translated d (sent_to m (point v)))
  pub into : (v : Coordinates) → Contains piece v → (w : Coordinates) × Contains c.cells w × (point w ≡ translated d (sent_to m (point v)))
  pub inside : (w : Coordinates) → Contains c.cells w → Contains p.region w
  pub rises : IsStrictlySortedBy coordinates_cmp c.cells
  pub useful : (is_needed p c.name ≡ true) ⊎ ((v : Coordinates) × Contains c.cells v × (must_fill p v ≡ true))

-- some pieces, the required ones among them, each laid once (those that may be used any number of times, at least once), which fill
-- each required cell and meet nowhere; of two equal pieces the one that comes first has the lesser of their least cells, and is used
-- where the other one is; given as a test on choices
pub record Packs (p : PuzzleValue) (chosen : ChoiceValue → Bool) : Type 0 where
  pub placed : (c : ChoiceValue) → chosen c ≡ true → IsTurnedPiece p c
  pub once : (c d : ChoiceValue) → chosen c ≡ true → chosen d ≡ true → is_any p c.name ≡ false → c.name ≡ d.name → c ≡ d
  pub used : (name : ℕ) → Contains (names_of (pieces_of p)) name → is_needed p name ≡ true → is_spare p name ≡ false → IsUsed chosen name
  pub filled : (v : Coordinates) → must_fill p v ≡ true → (c : ChoiceValue) × (chosen c ≡ true) × Contains c.cells v
  pub apart : (v : Coordinates) (c d : ChoiceValue) → chosen c ≡ true → chosen d ≡ true → Contains c.cells v → Contains d.cells v → c ≡ d
  pub ordered : (c d : ChoiceValue) → chosen c ≡ true → chosen d ≡ true → Contains (pairs p) (c.name, d.name)
      → coordinates_cmp (first_cell c.cells) (first_cell d.cells) ≡ Less
  pub in_turn : (m n : ℕ) → Contains (pairs p) (m, n) → IsUsed chosen n → IsUsed chosen m
