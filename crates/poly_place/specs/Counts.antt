-- How many packings a puzzle has: with spare copies as many as the puzzles with fixed numbers of copies have together.
--
-- Example: with `copies A+B` and `copies C+D` there are four ways to leave out spare copies: none, D, B, and B with D
-- (proofs/CountExamples.antt). So the puzzle has as many packings as four puzzles have together.
use Rattle.std.specs.Prelude.{◌≡◌, ◌↔◌, ℕ, Bool, List, [], ◌∷◌, ◌++◌, ⊤, map, flat_map, length, sum_by}
use Rattle.poly_cells.specs.Sets.{IsIn}
use Rattle.poly_texts.specs.Puzzle.{PuzzleValue, IsPuzzle, has_name, is_spare, equal_names}
use Rattle.cover_problem.specs.ExactCover.{IsExactCover}
use Rattle.shared_words.specs.Lists.{has}
use Rattle.poly_place.specs.Packings.{ChoiceValue, IsPacking, packing_problem}
use Rattle.poly_place.specs.Chosen.{is_among}
use Rattle.poly_place.specs.Classes.{IsLikeOne}
use Rattle.poly_place.specs.Compiled.{left_from}
use Rattle.poly_place.specs.Ranges.{AreSpareEnds, fixed_without}

-- ---- the number of packings

-- no two of the list are like one another
abbrev pub NoTwoAre : {P : Type 0} → (P → P → Type 0) → List P → Type 0
NoTwoAre Like [] = ⊤
NoTwoAre {P} Like (p ∷ ps) = ((q : P) → IsIn q ps → Like p q → ⊥) × NoTwoAre Like ps

-- the two lists have the same choices
abbrev pub HaveSameChoices : List ChoiceValue → List ChoiceValue → Type 0
HaveSameChoices cs ds = (c : ChoiceValue) → is_among cs c ≡ is_among ds c

-- the lists of choices are all for which it is so, each once: as tests on choices
pub record AreAll (IsSo : (ChoiceValue → Bool) → Type 0) (lists : List (List ChoiceValue)) : Type 0 where
  pub sound : (cs : List ChoiceValue) → IsIn cs lists → IsSo (is_among cs)
  pub complete : (chosen : ChoiceValue → Bool) → IsSo chosen
      → (cs : List ChoiceValue) × IsIn cs lists × ((c : ChoiceValue) → is_among cs c ≡ chosen c)
  pub once : NoTwoAre HaveSameChoices lists

-- they are the packings of the puzzle
abbrev pub AreAllPackings : PuzzleValue → List (List ChoiceValue) → Type 0
AreAllPackings p lists = AreAll (IsPacking p) lists

-- the puzzle has n packings
abbrev pub IsPackingCount : PuzzleValue → ℕ → Type 0
IsPackingCount p n = (lists : List (List ChoiceValue)) × AreAllPackings p lists × (length lists ≡ n)

-- the lists of options are the exact covers of the puzzle's problem, each once: as sets of options
pub record AreAllCovers (p : PuzzleValue) (paths : List (List ℕ)) : Type 0 where
  pub sound : (path : List ℕ) → IsIn path paths → IsExactCover (packing_problem p) (has path)
  pub complete : (set : ℕ → Bool) → IsExactCover (packing_problem p) set
      → (path : List ℕ) × IsIn path paths × ((o : ℕ) → has path o ≡ set o)
  pub once : NoTwoAre (λ q r. (o : ℕ) → has q o ≡ has r o) paths

-- ---- the ways to leave out spare copies

-- the two lists have the same names
abbrev pub HaveSameNames : List ℕ → List ℕ → Type 0
HaveSameNames ms ns = (n : ℕ) → has_name ms n ≡ has_name ns n

-- none of some equal pieces, or those from one on, where these are spare
abbrev pub ends_of : PuzzleValue → List ℕ → List (List ℕ)
ends_of p group = [] ∷ left_from (is_spare p) group

-- such an end of each group, together
abbrev pub ends_of_all : PuzzleValue → List (List ℕ) → List (List ℕ)
ends_of_all p [] = [] ∷ []
ends_of_all p (group ∷ groups) = flat_map (λ end. map (λ more. end ++ more) (ends_of_all p groups)) (ends_of p group)

-- the ways to leave out spare copies
abbrev pub spare_ends : PuzzleValue → List (List ℕ)
spare_ends p = ends_of_all p (equal_names p)

-- the lists are the ways to leave out spare copies, each once: as sets of names
pub record AreAllEnds (p : PuzzleValue) (ways : List (List ℕ)) : Type 0 where
  pub sound : (gone : List ℕ) → IsIn gone ways → AreSpareEnds p gone
  pub complete : (gone : List ℕ) → AreSpareEnds p gone → IsLikeOne HaveSameNames ways gone
  pub once : NoTwoAre HaveSameNames ways

-- ---- laws

-- a puzzle has one number of packings, and no other
abbrev pub CountsAreOne : Type 0
CountsAreOne = (p : PuzzleValue) (m n : ℕ) → IsPackingCount p m → IsPackingCount p n → m ≡ n

-- it is the number of exact covers of the puzzle's problem
abbrev pub CoversAreCounted : Type 0
CoversAreCounted = (p : PuzzleValue) (paths : List (List ℕ)) → IsPuzzle p → AreAllCovers p paths → IsPackingCount p (length paths)

-- the ways to leave out spare copies are listed, each once
abbrev pub EndsAreListed : Type 0
EndsAreListed = (p : PuzzleValue) → IsPuzzle p → AreAllEnds p (spare_ends p)

-- where each puzzle with fixed numbers of copies has so many packings, the puzzle with spare copies has as many as they have together
abbrev pub RangesAddUp : Type 0
RangesAddUp =
    (p : PuzzleValue) (count : List ℕ → ℕ) → IsPuzzle p
    → ((gone : List ℕ) → IsIn gone (spare_ends p) → IsPackingCount (fixed_without gone p) (count gone))
    → (n : ℕ) → IsPackingCount p n ↔ (n ≡ sum_by count (spare_ends p))
