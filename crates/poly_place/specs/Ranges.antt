-- Puzzles whose lines leave open how many copies are used, and those where the numbers are fixed.
--
-- Example: with `copies A+B` a puzzle has the packings that it has with `piece A` in its place, and those that it has with `copies AB`, and
-- no others.
use Rattle.std.specs.Prelude.{◌≡◌, ℕ, Bool, true, not, List, [], map, filter}
use Rattle.poly_cells.specs.Sets.{IsIn}
use Rattle.poly_texts.specs.Kinds.{KindValue}
use Rattle.poly_texts.specs.Puzzle.{PuzzleValue, IsPuzzle, has_name, is_spare, spare_names}
use Rattle.poly_place.specs.Packings.{ChoiceValue, pairs, IsPacking, option_of, every_choice, packing_problem}

-- spare copies that are left out together: with one of them also the next one
pub record AreSpareEnds (p : PuzzleValue) (gone : List ℕ) : Type 0 where
  pub spare : (n : ℕ) → has_name gone n ≡ true → is_spare p n ≡ true
  pub ends : (m n : ℕ) → IsIn (m, n) (pairs p) → has_name gone m ≡ true → has_name gone n ≡ true

-- the name is none of these
abbrev pub is_kept : List ℕ → ℕ → Bool
is_kept gone n = not (has_name gone n)

-- the kind without these copies, where all others have to be used
abbrev pub fixed_kind : List ℕ → KindValue → KindValue
fixed_kind gone k = record k { symbols = filter (is_kept gone) k.symbols; spare = 0 }

-- the puzzle of such kinds
abbrev pub fixed_without : List ℕ → PuzzleValue → PuzzleValue
fixed_without gone p = record p { kinds = map (fixed_kind gone) p.kinds }

-- each packing is one of a puzzle with fixed numbers, of exactly one, and each packing of such a puzzle is one
pub record SumOfFixed (p : PuzzleValue) : Type 0 where
  pub forth : (chosen : ChoiceValue → Bool) → IsPacking p chosen → (gone : List ℕ) × AreSpareEnds p gone × IsPacking (fixed_without gone p) chosen
  pub back : (gone : List ℕ) (chosen : ChoiceValue → Bool) → AreSpareEnds p gone → IsPacking (fixed_without gone p) chosen → IsPacking p chosen
  pub one : (gone more : List ℕ) (chosen : ChoiceValue → Bool) → AreSpareEnds p gone → AreSpareEnds p more → IsPacking (fixed_without gone p) chosen
      → IsPacking (fixed_without more p) chosen → (n : ℕ) → has_name gone n ≡ has_name more n

-- so it is for each puzzle
abbrev pub RangesAreSums : Type 0
RangesAreSums = (p : PuzzleValue) → IsPuzzle p → SumOfFixed p

-- a puzzle without spare copies has the options that lay a piece, and no others
abbrev pub SurePuzzlesStay : Type 0
SurePuzzlesStay = (p : PuzzleValue) → (spare_names p) ≡ [] → (packing_problem p).options ≡ map (option_of p) (every_choice p)
