-- How many classes a list of packings of one region has, as a number: whether two packings are alike, by a test, and how many of
-- the list are like none of those before them.
--
-- Example: the packings of the row 0 0 0, 1 0 0, 2 0 0 that read AAB, BAA and ABC have 2 classes, since half a turn carries the
-- first one onto the second (proofs/ClassExamples.antt).
use Rattle.std.specs.Prelude.{◌≡◌, ◌↔◌, ℕ, ◌+◌, Bool, true, ◌&&◌, cond, List, [], ◌∷◌, ◌++◌, map}
use Rattle.std.specs.List.{list_all, list_any, range_with_len}
use Rattle.std.specs.Ordering.{is_eq}
use Rattle.std.proofs.Math.Bool.{beq}
use Rattle.poly_cells.specs.Coordinates.{Coordinates}
use Rattle.poly_cells.specs.Turns.{turn}
use Rattle.poly_cells.specs.Sets.{IsIn}
use Rattle.poly_cells.specs.Shapes.{IsShape, corner, moved, moved_back, normal, turned}
use Rattle.poly_cells.specs.CellTests.{has_cell}
use Rattle.poly_place.specs.declared.alike.Group.{Group}
use Rattle.poly_place.specs.Placements.{cells_cmp}
use Rattle.poly_place.specs.Chosen.{PackingValue}
use Rattle.poly_place.specs.Classes.{is_member, is_empty_cell, same_part, AreAlike, HaveOneRegion, IsClassCount}

-- ---- a test of two packings

-- the least corner of the turned region
abbrev pub turned_corner : List Coordinates → ℕ → Coordinates
turned_corner region n = corner (map (turn n) region)

-- the cell turned, and then moved as the turned region is moved to bring its least corner to the region's
unfoldable pub image_in : List Coordinates → ℕ → Coordinates → Coordinates
image_in region n v = moved (corner region) (moved_back (turned_corner region n) (turn n v))

-- the cells to which these are brought, in the same order
abbrev pub images_in : List Coordinates → ℕ → List Coordinates
images_in region n = map (image_in region n) region

-- whether the two tests agree at each of the cells
abbrev pub agree : (Coordinates → Bool) → (Coordinates → Bool) → List Coordinates → Bool
agree f g vs = list_all (λ v. beq (f v) (g v)) vs

-- whether symmetry n, with the translation that brings the least corner back, brings the region onto the region, optional cells
-- onto optional cells, empty cells onto empty cells, and the parts of one packing onto those of the other
unfoldable pub carries : ℕ → PackingValue → PackingValue → Bool
carries n p q =
    is_eq (cells_cmp (turned n p.region) (normal p.region))
    && (agree (has_cell p.maybe_cells) (λ v. has_cell q.maybe_cells (image_in p.region n v)) p.region
    && (agree (is_empty_cell p.placements) (λ v. is_empty_cell q.placements (image_in p.region n v)) p.region
    && list_all (λ v. agree (same_part p.placements v) (λ w. same_part q.placements (image_in p.region n v) (image_in p.region n w))
    p.region) p.region))

-- whether a symmetry of the group carries one packing onto the other
unfoldable pub are_alike : Group → PackingValue → PackingValue → Bool
are_alike group p q = list_any (λ n. is_member group n && carries n p q) (range_with_len 0 48)

-- ---- the number of classes

-- how many of the list are like none of those before them, where these come before the list
abbrev pub count_new : {P : Type 0} → (P → P → Bool) → List P → List P → ℕ
count_new like before [] = 0
count_new like before (p ∷ ps) = cond (list_any (λ q. like q p) before) 0 1 + count_new like (before ++ p ∷ []) ps

-- how many of the list are like none of those before them
unfoldable pub class_count : {P : Type 0} → (P → P → Bool) → List P → ℕ
class_count like ps = count_new like [] ps

-- ---- laws

-- the test tells whether two packings of one region are alike
abbrev pub AlikeIsTested : Type 0
AlikeIsTested =
    (group : Group) (p q : PackingValue) → IsShape p.region → p.region ≡ q.region → p.maybe_cells ≡ q.maybe_cells
    → (are_alike group p q ≡ true) ↔ AreAlike group p q

-- that many, and no other number, of some packings of one region are like none of those before them
abbrev pub ClassesAreCounted : Type 0
ClassesAreCounted =
    (group : Group) (ps : List PackingValue) → ((p : PackingValue) → IsIn p ps → IsShape p.region) → HaveOneRegion ps
    → (n : ℕ) → IsClassCount (AreAlike group) ps n ↔ (n ≡ class_count (are_alike group) ps)
