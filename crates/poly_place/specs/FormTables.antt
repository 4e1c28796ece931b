-- How a packing's form is made in one pass over the cells of the region: by a list of parts, of which the placements paint the last one
-- first, and by a table of where each part stands first. Contracts of private functions cite these words.
--
-- Example: of the numbers 2 0 2 1 the table has at 0, 1 and 2 where each stands first, from 1 on: 2, 4 and 1 (proofs/ClassExamples.antt).
use Rattle.std.specs.Prelude.{◌≡◌, ℕ, ◌+◌, List, [], ◌∷◌, map, length, slice_index, slice_set}
use Rattle.poly_cells.specs.Coordinates.{Coordinates}
use Rattle.poly_cells.specs.Sets.{IsIn}
use Rattle.poly_cells.specs.Shapes.{IsShape}
use Rattle.poly_place.specs.Chosen.{place_in}
use Rattle.poly_place.specs.Compiled.{ArePlacesOf}
use Rattle.poly_place.specs.Layers.{painted}

-- whatever region the places are of, and whatever parts its cells had, these cells of it become cells of this part
abbrev pub PaintsParts : List ℕ → List ℕ → List ℕ → List Coordinates → ℕ → Type 0
PaintsParts places old new cells part =
    (region : List Coordinates) (f : Coordinates → ℕ) → IsShape region → ArePlacesOf region places → old ≡ map f region
    → new ≡ map (painted f cells part) region

-- the table after it was noted where these numbers stand, from k on, the last one first
abbrev pub firsts_from : ℕ → List ℕ → List ℕ → List ℕ
firsts_from k [] table = table
firsts_from k (x ∷ xs) table = slice_set (firsts_from (k + 1) xs table) x (k + 1)

-- the table has for each of the numbers where it stands first, from 1 on, and 0 for 0
pub record AreFirsts (numbers : List ℕ) (size : ℕ) (table : List ℕ) : Type 0 where
  pub long : length table ≡ size
  pub at : (x : ℕ) → IsIn x numbers → slice_index table x ≡ place_in (0 ∷ numbers) x
