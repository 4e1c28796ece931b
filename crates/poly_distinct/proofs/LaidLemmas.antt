-- Packings of which one lays pieces on the images of the cells on which the other one lays them are alike.
use Rattle.std.proofs.Common.{◌≡◌, ℕ, true, List, sym, subst}
use Rattle.std.specs.Cmp.{both_ways as same_tests}
use Rattle.poly_cells.specs.Coordinates.{Coordinates}
use Rattle.poly_cells.specs.Sets.{IsIn}
use Rattle.poly_cells.specs.Shapes.{IsShape}
use Rattle.poly_place.specs.declared.alike.Group.{Group}
use Rattle.poly_place.specs.Packings.{ChoiceValue}
use Rattle.poly_place.specs.Classes.{part_at, is_empty_cell, same_part}
use Rattle.poly_place.specs.ClassCount.{image_in}
use Rattle.poly_place.specs.Forms.{IsKept}
use Rattle.poly_distinct.specs.Distinct.{image_of}
use Rattle.poly_place.proofs.PartLemmas.{HaveOne, AreApart, empty_if, parts_if}
use Rattle.poly_place.proofs.FormLemmas.{PartAlike}
use Rattle.poly_distinct.proofs.ImagePackingLemmas.{in_image, from_image, tells}

-- ---- one packing on the images of the other

-- the second list lays pieces on exactly the images of the cells on which the first one lays them
pub record LaysImages (region : List Coordinates) (n : ℕ) (cs ds : List ChoiceValue) : Type 0 where
  pub forth : (c : ChoiceValue) → IsIn c cs → (d : ChoiceValue) × IsIn d ds × (d.cells ≡ image_of region n c.cells)
  pub back : (d : ChoiceValue) → IsIn d ds → (c : ChoiceValue) × IsIn c cs × (d.cells ≡ image_of region n c.cells)

module _ (group : Group) (vs ms : List Coordinates) (n : ℕ) (s : IsShape vs) (k : IsKept group vs ms n) (cs ds : List ChoiceValue)
    (inside : (c : ChoiceValue) → IsIn c cs → (v : Coordinates) → IsIn v c.cells → IsIn v vs) (a : AreApart cs) (b : AreApart ds) (l : LaysImages vs n cs ds) where
  one_there : (v w : Coordinates) → HaveOne cs v w → HaveOne ds (image_in vs n v) (image_in vs n w)
  one_there v w h =
      let d = l.forth h.0 h.1 in
      (d.0, d.1, subst (λ (us : List Coordinates). IsIn (image_in vs n v) us) (sym d.2) (in_image group vs ms n s k v h.0.cells h.2), subst (λ (us : List Coordinates). IsIn (image_in vs n w) us) (sym d.2) (in_image group vs ms n s k w h.0.cells h.3))

  one_here : (v w : Coordinates) → IsIn v vs → IsIn w vs → HaveOne ds (image_in vs n v) (image_in vs n w) → HaveOne cs v w
  one_here v w i j h =
      let c = l.back h.0 h.1 in
      let x = from_image group vs ms n s k (image_in vs n v) c.0.cells (subst (λ (us : List Coordinates). IsIn (image_in vs n v) us) c.2 h.2) in
      let y = from_image group vs ms n s k (image_in vs n w) c.0.cells (subst (λ (us : List Coordinates). IsIn (image_in vs n w) us) c.2 h.3) in
      (c.0, c.1, subst (λ (u : Coordinates). IsIn u c.0.cells) (sym (tells group vs ms n s k v x.0 i (inside c.0 c.1 x.0 x.1) x.2)) x.1, subst (λ (u : Coordinates). IsIn u c.0.cells) (sym (tells group vs ms n s k w y.0 j (inside c.0 c.1 y.0 y.1) y.2)) y.1)

  empty_there : (v : Coordinates) → IsIn v vs → is_empty_cell cs v ≡ true → is_empty_cell ds (image_in vs n v) ≡ true
  empty_there v i e = empty_if ds cs (image_in vs n v) v (one_here v v i i) e

  empty_here : (v : Coordinates) → IsIn v vs → is_empty_cell ds (image_in vs n v) ≡ true → is_empty_cell cs v ≡ true
  empty_here v i e = empty_if cs ds v (image_in vs n v) (one_there v v) e

  -- empty here exactly where empty there
  empty_same : (v : Coordinates) → IsIn v vs → is_empty_cell cs v ≡ is_empty_cell ds (image_in vs n v)
  empty_same v i = same_tests (is_empty_cell cs v) (is_empty_cell ds (image_in vs n v)) (empty_there v i) (empty_here v i)

  parts_same : (v w : Coordinates) → IsIn v vs → IsIn w vs → same_part cs v w ≡ same_part ds (image_in vs n v) (image_in vs n w)
  parts_same v w i j =
      same_tests (same_part cs v w) (same_part ds (image_in vs n v) (image_in vs n w))
      (parts_if cs ds v w (image_in vs n v) (image_in vs n w) b (one_there v w) (empty_there v i) (empty_there w j))
      (parts_if ds cs (image_in vs n v) (image_in vs n w) v w a (one_here v w i j) (empty_here v i) (empty_here w j))

  pub parts_alike : PartAlike vs (part_at cs) (λ v. part_at ds (image_in vs n v))
  parts_alike = record { empty = empty_same; parts = parts_same }
