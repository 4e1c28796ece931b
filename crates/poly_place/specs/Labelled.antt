-- Classes of the packings of a puzzle with equal pieces: they are those of the packings in which all pieces are told apart, where
-- symmetries of the region, and then equal pieces that change places, carry some onto others.
--
-- Example: two equal pieces of one cell each in the row 0 0 0, 1 0 0. The puzzle has the packing A 000, B 100 alone; told apart, the
-- pieces have also A 100, B 000, which is like it: half a turn carries each piece of the one onto that of the other
-- (proofs/LabelledExamples.antt).
use Rattle.std.specs.Prelude.{◌≡◌, ◌↔◌, ℕ, ◌<◌, true, List, map}
use Rattle.poly_cells.specs.Coordinates.{Coordinates}
use Rattle.poly_cells.specs.Points.{Point}
use Rattle.poly_cells.specs.Sets.{IsIn}
use Rattle.poly_cells.specs.Images.{IsImage}
use Rattle.poly_cells.specs.CellTests.{has_cell}
use Rattle.poly_texts.specs.Puzzle.{PuzzleValue, IsPuzzle, pieces_of, copy_symbols}
use Rattle.poly_place.specs.declared.alike.Group.{Group}
use Rattle.poly_place.specs.Packings.{ChoiceValue}
use Rattle.poly_place.specs.Chosen.{PackingValue, is_among}
use Rattle.poly_place.specs.Swaps.{IsApart, AreEqual, IsSwap}
use Rattle.poly_place.specs.Classes.{is_member, IsSent, AreAlike, IsClassCount}
use Rattle.poly_place.specs.Counts.{AreAll, AreAllPackings}

-- the packing of the puzzle that these choices are
abbrev pub packing_with : PuzzleValue → List ChoiceValue → PackingValue
packing_with p cs = record { region = p.region; maybe_cells = p.maybe_cells; placements = cs; symbols = (copy_symbols p) }

-- the first packing is like one in which the pieces are told apart, and equal pieces of that change places so that it is the second
pub record ThenSwaps (p : PuzzleValue) (Like : PackingValue → PackingValue → Type 0) (a b : PackingValue) : Type 0 where
  pub between : List ChoiceValue
  pub packs : IsApart p (is_among between)
  pub like : Like a (packing_with p between)
  pub swaps : IsSwap p (is_among between) (is_among b.placements)

-- symmetry n and then a translation by d bring the region onto the region, optional cells onto optional cells, and each piece of one
-- packing onto the piece with its name of the other
pub record CarriesNames (n : ℕ) (d : Point) (a b : PackingValue) : Type 0 where
  pub region : IsImage n d a.region b.region
  pub optional : (v w : Coordinates) → IsIn v a.region → IsSent n d v w → has_cell a.maybe_cells v ≡ has_cell b.maybe_cells w
  pub forth : (c : ChoiceValue) → IsIn c a.placements
      → (e : ChoiceValue) × IsIn e b.placements × (e.name ≡ c.name) × IsImage n d c.cells e.cells
  pub back : (e : ChoiceValue) → IsIn e b.placements
      → (c : ChoiceValue) × IsIn c a.placements × (c.name ≡ e.name) × IsImage n d c.cells e.cells

-- a symmetry of the group, with some translation, carries one packing onto the other, each piece onto the piece with its name
pub record AreAlikeByName (group : Group) (a b : PackingValue) : Type 0 where
  pub symmetry : ℕ
  pub limit : symmetry < 48
  pub member : is_member group symmetry ≡ true
  pub by : Point
  pub carried : CarriesNames symmetry by a b

-- a symmetry and a translation bring a piece to no piece but itself and those that are equal to it
abbrev pub OthersDiffer : PuzzleValue → Type 0
OthersDiffer p =
    (q r : ℕ × List Coordinates) (n : ℕ) (d : Point) → IsIn q (pieces_of p) → IsIn r (pieces_of p) → n < 48 → IsImage n d (q.1) (r.1)
    → AreEqual p (q.0) (r.0)

-- ---- laws

-- two packings in which the pieces are told apart are alike exactly if equal pieces of one that is like the first can change places so
-- that it is the second
abbrev pub AlikeThenSwaps : Type 0
AlikeThenSwaps =
    (p : PuzzleValue) (group : Group) (cs ds : List ChoiceValue) → IsPuzzle p
    → IsApart p (is_among cs) → IsApart p (is_among ds)
    → AreAlike group (packing_with p cs) (packing_with p ds)
    ↔ ThenSwaps p (AreAlike group) (packing_with p cs) (packing_with p ds)

-- where other pieces differ, it is enough to ask this of one onto which a symmetry carries the first, each piece onto the piece with its
-- name
abbrev pub AlikeByNameThenSwaps : Type 0
AlikeByNameThenSwaps =
    (p : PuzzleValue) (group : Group) (cs ds : List ChoiceValue) → IsPuzzle p → OthersDiffer p
    → IsApart p (is_among cs) → IsApart p (is_among ds)
    → AreAlike group (packing_with p cs) (packing_with p ds)
    ↔ ThenSwaps p (AreAlikeByName group) (packing_with p cs) (packing_with p ds)

-- the packings of the puzzle have n classes exactly if those in which the pieces are told apart have n, by symmetries and then exchanges
-- of equal pieces
abbrev pub ClassesAreLabelled : Type 0
ClassesAreLabelled =
    (p : PuzzleValue) (group : Group) (packings labelled : List (List ChoiceValue)) → IsPuzzle p
    → AreAllPackings p packings → AreAll (IsApart p) labelled
    → (n : ℕ) → IsClassCount (AreAlike group) (map (packing_with p) packings) n
    ↔ IsClassCount (ThenSwaps p (AreAlike group)) (map (packing_with p) labelled) n

-- and where other pieces differ, by symmetries that carry each piece onto the piece with its name, and then exchanges
abbrev pub ClassesAreLabelledByName : Type 0
ClassesAreLabelledByName =
    (p : PuzzleValue) (group : Group) (packings labelled : List (List ChoiceValue)) → IsPuzzle p → OthersDiffer p
    → AreAllPackings p packings → AreAll (IsApart p) labelled
    → (n : ℕ) → IsClassCount (AreAlike group) (map (packing_with p) packings) n
    ↔ IsClassCount (ThenSwaps p (AreAlikeByName group)) (map (packing_with p) labelled) n
