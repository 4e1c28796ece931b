-- Forms of a packing: its parts as one list of numbers for each symmetry, the same for packings that are carried onto one another.
-- Contracts of private functions cite these words.
--
-- Example: the parts 2 0 2 1 have the form 1 0 1 4, since the part numbered 2 stands first at place 1 (proofs/ClassExamples.antt).
use Rattle.std.specs.Prelude.{◌≡◌, ◌↔◌, ℕ, ◌<◌, Bool, true, List, [], ◌∷◌, map, slice_index}
use Rattle.std.specs.Ordering.{nat_cmp}
use Rattle.std.specs.Cmp.Lexicographic.{slice_cmp}
use Rattle.std.specs.declared.cmp.Ordering.{Ordering}
use Rattle.poly_cells.specs.Coordinates.{Coordinates}
use Rattle.poly_cells.specs.Sets.{IsIn, by_order}
use Rattle.poly_cells.specs.Images.{HasSymmetry}
use Rattle.poly_cells.specs.CellTests.{has_cell}
use Rattle.poly_place.specs.declared.alike.Group.{Group}
use Rattle.poly_place.specs.Packings.{ChoiceValue, place_of}
use Rattle.poly_place.specs.Chosen.{PackingValue, place_in}
use Rattle.poly_place.specs.Classes.{is_member, part_at}
use Rattle.poly_place.specs.ClassCount.{images_in}

-- for each cell of the region the place of its image
abbrev pub carrier : List Coordinates → ℕ → List ℕ
carrier region n = map (place_of region) (images_in region n)

-- for each of these cells whether it is among the others
abbrev pub marks_of : List Coordinates → List Coordinates → List Bool
marks_of others cells = map (has_cell others) cells

-- symmetry n of the group brings the region onto itself and optional cells onto optional cells
pub record IsKept (group : Group) (region maybe : List Coordinates) (n : ℕ) : Type 0 where
  pub limit : n < 48
  pub member : is_member group n ≡ true
  pub symmetry : HasSymmetry n region
  pub optional : marks_of maybe (images_in region n) ≡ marks_of maybe region

-- exactly the carriers of these symmetries
abbrev pub AreCarriers : Group → List Coordinates → List Coordinates → List (List ℕ) → Type 0
AreCarriers group region maybe carriers =
    (g : List ℕ) → IsIn g carriers ↔ ((n : ℕ) × IsKept group region maybe n × (g ≡ carrier region n))

-- ---- forms

-- each of these places is one of n
abbrev pub AreBelow : ℕ → List ℕ → Type 0
AreBelow n places = (k : ℕ) → IsIn k places → k < n

-- and so is each place of these lists
abbrev pub AllAreBelow : ℕ → List (List ℕ) → Type 0
AllAreBelow n lists = (g : List ℕ) → IsIn g lists → AreBelow n g

-- the part of each cell
abbrev pub parts_in : List Coordinates → List ChoiceValue → List ℕ
parts_in region cs = map (part_at cs) region

-- the numbers at these places
abbrev pub carried : List ℕ → List ℕ → List ℕ
carried numbers places = map (slice_index numbers) places

-- for each number where it stands first, from 1 on, and 0 for 0
unfoldable pub first_form : List ℕ → List ℕ
first_form numbers = map (place_in (0 ∷ numbers)) numbers

-- the form of the numbers, carried
abbrev pub form_by : List ℕ → List ℕ → List ℕ
form_by numbers places = first_form (carried numbers places)

-- forms are ordered as lists of numbers
abbrev pub forms_cmp : List ℕ → List ℕ → Ordering
forms_cmp = slice_cmp nat_cmp

-- the lesser of two forms
abbrev pub lesser : List ℕ → List ℕ → List ℕ
lesser form best = by_order (forms_cmp form best) form best best

-- the least of a form and of those of the numbers, carried in each way
unfoldable pub least_from : List ℕ → List ℕ → List (List ℕ) → List ℕ
least_from numbers best [] = best
least_from numbers best (g ∷ gs) = least_from numbers (lesser (form_by numbers g) best) gs

-- the least of the forms of these parts, as they are and carried in each way
abbrev pub least_form : List ℕ → List (List ℕ) → List ℕ
least_form numbers carriers = least_from numbers (first_form numbers) carriers

-- the least form of a packing
abbrev pub key_of : List Coordinates → List (List ℕ) → PackingValue → List ℕ
key_of region carriers p = least_form (parts_in region p.placements) carriers
