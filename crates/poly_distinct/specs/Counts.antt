-- How many lists have each number, and how many choices are at each cell.
--
-- Example: of the lists 1 2, 2 3 and 2 one has the number 1, three have 2, and one has 3. So the counts below 4 are 0 1 3 1.
use Rattle.std.specs.Prelude.{◌≡◌, ℕ, ◌+◌, ◌<◌, ◌^◌, Bool, cond, List, map, filter, length, slice_index}
use Rattle.shared_words.specs.Lists.{has}
use Rattle.poly_cells.specs.Coordinates.{Coordinates}
use Rattle.poly_cells.specs.Sets.{IsIn}
use Rattle.poly_texts.specs.Puzzle.{PuzzleValue}
use Rattle.poly_place.specs.Packings.{ChoiceValue, a_cell, place_of}
use Rattle.poly_distinct.specs.declared.anchor.Anchor.TheVariants.{Cell}
use Rattle.poly_distinct.specs.Distinct.{is_least}
use Rattle.poly_distinct.specs.Moves.{MovesValue, kept_at}
use Rattle.poly_distinct.specs.Rule.{TallyValue, tally_by}

-- the counts are greater by one at these places, and the same elsewhere
pub record AreMore (old new places : List ℕ) : Type 0 where
  pub long : length new ≡ length old
  pub each : (k : ℕ) → k < length old → slice_index new k ≡ slice_index old k + cond (has places k) 1 0

-- the count at each number below n is how many of these things have it among their numbers
pub record AreCounts {X : Type 0} (n : ℕ) (list_of : X → List ℕ) (xs : List X) (counts : List ℕ) : Type 0 where
  pub long : length counts ≡ n
  pub each : (k : ℕ) → k < n → slice_index counts k ≡ length (filter (λ x. has (list_of x) k) xs)

-- how many of the region's cells come before each cell of a choice
abbrev pub places_in : PuzzleValue → ChoiceValue → List ℕ
places_in p c = map (place_of p.region) c.cells

-- whether none of the moves that leave a cell where it is brings these cells to lesser ones
abbrev pub is_first_at : MovesValue → List Coordinates → Coordinates → Bool
is_first_at m cells v = is_least m.puzzle.region (kept_at m.puzzle m.group (a_cell v)) cells

-- how many of the region's cells come before each of these cells at which they are first
abbrev pub first_of_cells : MovesValue → List Coordinates → List ℕ
first_of_cells m cells = map (place_of m.puzzle.region) (filter (is_first_at m cells) cells)

-- the same of the cells of a choice: it is kept there
abbrev pub first_places : MovesValue → ChoiceValue → List ℕ
first_places m c = first_of_cells m c.cells

-- these are the places of cells of the region
pub record ArePlacesAmong (region cells : List Coordinates) (places : List ℕ) : Type 0 where
  pub inside : (v : Coordinates) → IsIn v cells → IsIn v region
  pub places_are : places ≡ map (place_of region) cells

-- there are n counts, and one can be added to each
pub record HaveRoomForMore (n : ℕ) (counts : List ℕ) : Type 0 where
  pub long : length counts ≡ n
  pub room : (k : ℕ) → k < length counts → slice_index counts k < 2 ^ 32

-- how many choices fill a cell, and how many of them are kept there
abbrev pub cell_tally : MovesValue → Coordinates → TallyValue
cell_tally m v = tally_by m.puzzle (kept_at m.puzzle m.group (a_cell v)) (Cell v)
