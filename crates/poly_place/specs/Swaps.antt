-- Packings in which equal pieces change places.
--
-- The packings of a puzzle keep equal pieces in order. So of the packings in which all pieces are told apart they are one of each
-- class of those that differ by equal pieces that change places.
use Rattle.std.specs.Prelude.{◌≡◌, ℕ, ◌⊎◌, Bool, true, List, []}
use Rattle.poly_cells.specs.Sets.{IsIn}
use Rattle.poly_texts.specs.Puzzle.{PuzzleValue, IsPuzzle, equal_names}
use Rattle.poly_place.specs.Packings.{ChoiceValue, IsPackingBy, IsPacking}

-- a packing where equal pieces are told apart: none comes before the other
abbrev pub IsApart : PuzzleValue → (ChoiceValue → Bool) → Type 0
IsApart p chosen = IsPackingBy p [] chosen

-- the names are the same, or those of equal pieces
abbrev pub AreEqual : PuzzleValue → ℕ → ℕ → Type 0
AreEqual p m n = (m ≡ n) ⊎ ((group : List ℕ) × IsIn group (equal_names p) × IsIn m group × IsIn n group)

-- where the one packing lays a piece, the other one lays it or an equal one, and the other way round
pub record IsSwap (p : PuzzleValue) (chosen other : ChoiceValue → Bool) : Type 0 where
  pub forth : (c : ChoiceValue) → chosen c ≡ true → (d : ChoiceValue) × (other d ≡ true) × (d.cells ≡ c.cells) × AreEqual p c.name d.name
  pub back : (d : ChoiceValue) → other d ≡ true → (c : ChoiceValue) × (chosen c ≡ true) × (c.cells ≡ d.cells) × AreEqual p d.name c.name

-- equal pieces change places so that a packing of the puzzle comes of it, and only one does
pub record HasOneInOrder (p : PuzzleValue) (chosen : ChoiceValue → Bool) : Type 0 where
  pub some : (other : ChoiceValue → Bool) × IsPacking p other × IsSwap p chosen other
  pub one : (other another : ChoiceValue → Bool) → IsPacking p other → IsSwap p chosen other → IsPacking p another → IsSwap p chosen another
      → (c : ChoiceValue) → other c ≡ another c

-- each packing is one in which the pieces are told apart, and of those that differ by equal pieces that change places
-- exactly one is a packing
pub record CountSwapsOnce (p : PuzzleValue) : Type 0 where
  pub apart : (chosen : ChoiceValue → Bool) → IsPacking p chosen → IsApart p chosen
  pub once : (chosen : ChoiceValue → Bool) → IsApart p chosen → HasOneInOrder p chosen

-- so it is for each puzzle
abbrev pub SwapsCountOnce : Type 0
SwapsCountOnce = (p : PuzzleValue) → IsPuzzle p → CountSwapsOnce p
