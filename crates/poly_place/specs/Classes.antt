-- Classes of packings of one region: two packings are alike where a symmetry carries one onto the other, pieces without names.
--
-- Example: the packings of the row 0 0 0, 1 0 0, 2 0 0 that read AAB and BAA are alike, since half a turn carries one onto the
-- other (proofs/ClassExamples.antt).
use Rattle.std.specs.Prelude.{◌≡◌, ℕ, ◌+◌, ◌<◌, ◌==◌, Bool, true, cond, List, [], ◌∷◌, ◌++◌, ◌⊎◌, length}
use Rattle.poly_cells.specs.Coordinates.{Coordinates}
use Rattle.poly_cells.specs.Points.{Point, point, translated}
use Rattle.poly_cells.specs.Symmetries.{sent_by, is_rotation}
use Rattle.poly_cells.specs.Sets.{IsIn}
use Rattle.poly_cells.specs.Images.{IsImage}
use Rattle.poly_cells.specs.CellTests.{has_cell}
use Rattle.poly_place.specs.declared.alike.Group.{Group}
use Rattle.poly_place.specs.declared.alike.Group.TheVariants.{Rotations, Symmetries}
use Rattle.poly_place.specs.Packings.{ChoiceValue}
use Rattle.poly_place.specs.Chosen.{PackingValue}

-- whether the group has symmetry n
abbrev pub is_member : Group → ℕ → Bool
is_member Rotations n = is_rotation n
is_member Symmetries n = true

-- symmetry n and then a translation by d bring the cell v to w
abbrev pub IsSent : ℕ → Point → Coordinates → Coordinates → Type 0
IsSent n d v w = point w ≡ translated d (sent_by n (point v))

-- which placement has the cell: how many are left from the first one that has it on, and 0 where the cell is empty
abbrev pub part_at : List ChoiceValue → Coordinates → ℕ
part_at [] v = 0
part_at (c ∷ cs) v = cond (has_cell c.cells v) (length (c ∷ cs)) (part_at cs v)

-- whether no placement has the cell
abbrev pub is_empty_cell : List ChoiceValue → Coordinates → Bool
is_empty_cell cs v = part_at cs v == 0

-- whether the same placement has both cells, or none has either
abbrev pub same_part : List ChoiceValue → Coordinates → Coordinates → Bool
same_part cs v w = part_at cs v == part_at cs w

-- symmetry n and then a translation by d bring the region onto the region, optional cells onto optional cells, empty cells
-- onto empty cells, and the parts of one packing onto those of the other
pub record Carries (n : ℕ) (d : Point) (p q : PackingValue) : Type 0 where
  pub region : IsImage n d p.region q.region
  pub optional : (v w : Coordinates) → IsIn v p.region → IsSent n d v w → has_cell p.maybe_cells v ≡ has_cell q.maybe_cells w
  pub empty : (v w : Coordinates) → IsIn v p.region → IsSent n d v w → is_empty_cell p.placements v ≡ is_empty_cell q.placements w
  pub parts : (v w x y : Coordinates) → IsIn v p.region → IsIn w p.region → IsSent n d v x → IsSent n d w y
      → same_part p.placements v w ≡ same_part q.placements x y

-- a symmetry of the group, with some translation, carries one packing onto the other
pub record AreAlike (group : Group) (p q : PackingValue) : Type 0 where
  pub symmetry : ℕ
  pub limit : symmetry < 48
  pub member : is_member group symmetry ≡ true
  pub by : Point
  pub carried : Carries symmetry by p q

-- the packings have one region, and in it the same optional cells
abbrev pub HaveOneRegion : List PackingValue → Type 0
HaveOneRegion ps = (p q : PackingValue) → IsIn p ps → IsIn q ps → (p.region ≡ q.region) × (p.maybe_cells ≡ q.maybe_cells)

-- one of these is like p
abbrev pub IsLikeOne : {P : Type 0} → (P → P → Type 0) → List P → P → Type 0
IsLikeOne {P} Like before p = (q : P) × IsIn q before × Like q p

-- n of the list are like none of those before them, where these come before the list
abbrev pub AreNew : {P : Type 0} → (P → P → Type 0) → List P → List P → ℕ → Type 0
AreNew Like before [] n = n ≡ 0
AreNew Like before (p ∷ ps) n =
    (IsLikeOne Like before p × AreNew Like (before ++ p ∷ []) ps n)
    ⊎ (¬ IsLikeOne Like before p × ((m : ℕ) × (n ≡ m + 1) × AreNew Like (before ++ p ∷ []) ps m))

-- how many of the list are like none of those before them
abbrev pub IsClassCount : {P : Type 0} → (P → P → Type 0) → List P → ℕ → Type 0
IsClassCount Like ps n = AreNew Like [] ps n
