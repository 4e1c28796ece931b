-- The symmetries of a puzzle's region as the code has them: where each brings the places of the region's cells, and which of them leave
-- an anchor where it is.
--
-- Example: of the row 0 0 0, 1 0 0, 2 0 0 half a turn brings the places 0 1 2 to 2 1 0, and leaves the cell 1 0 0 where it is
-- (proofs/DistinctExamples.antt).
use Rattle.std.specs.Prelude.{◌≡◌, ℕ, ◌<◌, ◌≤◌, ◌==◌, Bool, true, not, ◌&&◌, List, map, filter, length, slice_index, Option, None, Some}
use Rattle.std.specs.List.{list_all, range_with_len}
use Rattle.std.specs.Ordering.{is_lt, nat_cmp, ordering_then}
use Rattle.std.specs.declared.cmp.Ordering.{Ordering}
use Rattle.poly_cells.specs.Coordinates.{Coordinates}
use Rattle.poly_cells.specs.Sets.{IsIn, in_order}
use Rattle.poly_cells.specs.CellTests.{is_same}
use Rattle.poly_texts.specs.Puzzle.{PuzzleValue, IsPuzzle}
use Rattle.poly_place.specs.declared.alike.Group.{Group}
use Rattle.poly_place.specs.Packings.{Thing, a_piece, a_cell, a_node, place_of}
use Rattle.poly_place.specs.ClassCount.{image_in}
use Rattle.poly_place.specs.Compiled.{ArePlacesOf}
use Rattle.poly_place.specs.Forms.{AreBelow, AreCarriers, carried, forms_cmp}
use Rattle.poly_distinct.specs.declared.anchor.Anchor.{Anchor}
use Rattle.poly_distinct.specs.declared.anchor.Anchor.TheVariants.{Piece, Cell}
use Rattle.poly_distinct.specs.Distinct.{keeps_region}

-- the thing that an anchor is
abbrev pub thing_of : Anchor → Thing
thing_of (Piece name) = a_piece name
thing_of (Cell v) = a_cell v

-- whether symmetry n leaves the cell where it is; any other thing has no place
abbrev pub leaves_thing : PuzzleValue → Thing → ℕ → Bool
leaves_thing p (a_piece name) n = true
leaves_thing p (a_cell v) n = is_same (image_in p.region n v) v
leaves_thing p (a_node name h) n = true

-- the symmetries of the group that keep the region and its optional cells, and leave the thing where it is
unfoldable pub kept_at : PuzzleValue → Group → Thing → List ℕ
kept_at p group t = filter (λ n. keeps_region p group n && leaves_thing p t n) (range_with_len 0 48)

-- a cell is one of the region
abbrev pub LiesInside : PuzzleValue → Thing → Type 0
LiesInside p (a_piece name) = Unit {0}
LiesInside p (a_cell v) = IsIn v p.region
LiesInside p (a_node name h) = Unit {0}

-- the symmetries of a group that keep a puzzle's region and its optional cells
pub record MovesValue : Type 0 where
  pub puzzle : PuzzleValue
  pub group : Group

-- the table has the place of each cell of the region, and the carriers are those of the symmetries
pub record AreMoves (p : PuzzleValue) (group : Group) (places : List ℕ) (carriers : List (List ℕ)) : Type 0 where
  pub sound : IsPuzzle p
  pub table : ArePlacesOf p.region places
  pub carriers_are : AreCarriers group p.region p.maybe_cells carriers

-- the place that a move has to leave where it is
abbrev pub fixed_place : List Coordinates → Thing → Option ℕ
fixed_place region (a_piece name) = None
fixed_place region (a_cell v) = Some (place_of region v)
fixed_place region (a_node name h) = None

-- whether a carrier leaves the place where it is
abbrev pub leaves_place : Option ℕ → List ℕ → Bool
leaves_place None carrier = true
leaves_place (Some place) carrier = slice_index carrier place == place

-- whether a carrier brings these places, put in order, to lesser ones
abbrev pub lowers : List ℕ → List ℕ → Bool
lowers places carrier = is_lt (forms_cmp (in_order nat_cmp (carried carrier places)) places)

-- the least of these places
pub record IsLeastOf (least : ℕ) (places : List ℕ) : Type 0 where
  pub member : IsIn least places
  pub below : (k : ℕ) → IsIn k places → least ≤ k

-- an order of lists that their first places tell, unless these are equal
abbrev pub BeginsWith : Ordering → Ordering → Type 0
BeginsWith first whole = (rest : Ordering) × (whole ≡ ordering_then first rest)

-- whether no carrier does that which leaves the place where it is
abbrev pub is_least_by : Option ℕ → List ℕ → List (List ℕ) → Bool
is_least_by fixed places carriers = list_all (λ g. not (leaves_place fixed g && lowers places g)) carriers

-- the carriers have these places, and the one that has to stay
pub record HavePlaces (fixed : Option ℕ) (places : List ℕ) (carriers : List (List ℕ)) : Type 0 where
  pub each : (g : List ℕ) → IsIn g carriers → AreBelow (length g) places
  pub one : (g : List ℕ) → IsIn g carriers → (k : ℕ) → fixed ≡ Some k → k < length g

-- where each carrier that leaves the place where it is brings these, in order
abbrev pub images_at : Option ℕ → List ℕ → List (List ℕ) → List (List ℕ)
images_at fixed places carriers = map (λ g. in_order nat_cmp (carried g places)) (filter (leaves_place fixed) carriers)
