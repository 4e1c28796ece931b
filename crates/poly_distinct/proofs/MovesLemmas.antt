-- Symmetries as moves of places: which of them leave a cell where it is, and that they bring cells to lesser ones where they bring the places of
-- the cells to lesser ones.
use Rattle.std.proofs.Common.{◌≡◌, ℕ, ◌<◌, ◌==◌, Bool, true, false, not, ◌&&◌, cond, List, [], ◌∷◌, filter, map, length, inl, inr, refl, sym, ap, ap₂, subst, ◌∙◌, arith, Option, Some, Less, Greater, eqb-true, eq-eqb, slice_index}
use Rattle.std.specs.List.{range_with_len, position_or_len}
use Rattle.std.specs.Ordering.{is_lt, nat_cmp, ordering_then}
use Rattle.std.specs.Cmp.{nat_cmp_is, both_ways as same_tests}
use Rattle.std.proofs.lemmas.Bool.{both_ways, and_parts, and_from}
use Rattle.std.proofs.lemmas.Cmp.{tied_itself, nat_cmp_total}
use Rattle.std.proofs.lemmas.List.{length-map, get_or-map}
use Rattle.std.proofs.lemmas.List.Sums.{passes_at_first}
use Rattle.poly_cells.specs.Coordinates.{Coordinates, coordinates_cmp}
use Rattle.poly_cells.specs.Sets.{IsIn, in_order}
use Rattle.poly_cells.specs.Shapes.{IsShape}
use Rattle.poly_cells.specs.CellTests.{is_same}
use Rattle.poly_cells.proofs.SetLemmas.{cases_order, turned_back, in_map, in_from_map, in_order_rises, in_from_order, in_to_order, rising_map, same_members}
use Rattle.poly_cells.proofs.MemberLemmas.{in_filter, in_from_filter, all_pass, passes, same_map, first_at, first_within, in_from_range, in_to_range}
use Rattle.poly_cells.proofs.CoordinateLemmas.{coordinates_total, coordinates_exact, is_same_Decides}
use Rattle.poly_texts.specs.Puzzle.{PuzzleValue, IsPuzzle}
use Rattle.poly_place.specs.declared.alike.Group.{Group}
use Rattle.poly_place.specs.Placements.{cells_cmp}
use Rattle.poly_place.specs.Packings.{Thing, a_piece, a_cell, a_node, place_of}
use Rattle.poly_place.specs.ClassCount.{image_in}
use Rattle.poly_place.specs.Forms.{IsKept, AreBelow, AreCarriers, carrier, carried, forms_cmp}
use Rattle.poly_place.proofs.PlacedLemmas.{has_shapes}
use Rattle.poly_place.proofs.PlaceLemmas.{place_within, place_rises}
use Rattle.poly_place.proofs.ChosenLemmas.{nat_exact}
use Rattle.poly_place.proofs.CarryLemmas.{kept_stays}
use Rattle.poly_distinct.specs.Distinct.{image_of, is_least, keeps_region}
use Rattle.poly_distinct.specs.Counts.{ArePlacesAmong, first_of_cells, is_first_at}
use Rattle.poly_distinct.specs.Moves.{HavePlaces, LiesInside, MovesValue, fixed_place, is_least_by, kept_at, leaves_place, leaves_thing, lowers}
use Rattle.poly_distinct.proofs.AllowedLemmas.{kept_from, from_kept}
use mathlib.Core.List.{map-map}

-- all of these cells are in the region
abbrev pub AreInside : List Coordinates → List Coordinates → Type 0
AreInside vs cells = (v : Coordinates) → IsIn v cells → IsIn v vs

module _ (vs : List Coordinates) (s : IsShape vs) where
  abbrev place : Coordinates → ℕ
  place = place_of vs

  less_places : (v w : Coordinates) → IsIn v vs → IsIn w vs → coordinates_cmp v w ≡ Less → nat_cmp (place v) (place w) ≡ Less
  less_places v w i j h = sym (nat_cmp_is (place v) (place w) Less (place_rises vs v w s.rises i j h))

  -- places are in the order of the cells
  same_order : (v w : Coordinates) → IsIn v vs → IsIn w vs → nat_cmp (place v) (place w) ≡ coordinates_cmp v w
  same_order v w i j =
      elim (cases_order (coordinates_cmp v w)) [
        | inl h ↦ less_places v w i j h ∙ sym h
        | inr o ↦ elim o [
          | inl h ↦ ap (nat_cmp (place v)) (ap place (sym (coordinates_exact v w h))) ∙ tied_itself nat_cmp_total (place v) ∙ sym h
          | inr h ↦ sym (nat_cmp_is (place v) (place w) Greater (place_rises vs w v s.rises j i (turned_back coordinates_total v w h))) ∙ sym h
        ]
      ]

  -- and so are lists of them
  pub same_orders : (xs ys : List Coordinates) → AreInside vs xs → AreInside vs ys → forms_cmp (map place xs) (map place ys) ≡ cells_cmp xs ys
  same_orders [] [] a b = refl
  same_orders [] (y ∷ ys) a b = refl
  same_orders (x ∷ xs) [] a b = refl
  same_orders (x ∷ xs) (y ∷ ys) a b =
      ap₂ ordering_then (same_order x y (a x (inl refl)) (b y (inl refl))) (same_orders xs ys (λ v i. a v (inr i)) (λ v i. b v (inr i)))

  -- places in order are those of the cells in order
  places_in_order : (xs : List Coordinates) → AreInside vs xs → in_order nat_cmp (map place xs) ≡ map place (in_order coordinates_cmp xs)
  places_in_order xs a =
      same_members nat_cmp_total (in_order nat_cmp (map place xs)) (map place (in_order coordinates_cmp xs))
      (in_order_rises nat_cmp_total (map place xs))
      (rising_map place coordinates_cmp nat_cmp (in_order coordinates_cmp xs)
      (λ v w i j h. less_places v w (a v (in_from_order coordinates_cmp v xs i)) (a w (in_from_order coordinates_cmp w xs j)) h) (in_order_rises coordinates_total xs))
      (λ k i. let v = in_from_map place k xs (in_from_order nat_cmp k (map place xs) i) in
      subst (λ (n : ℕ). IsIn n (map place (in_order coordinates_cmp xs))) (sym v.2) (in_map place v.0 (in_order coordinates_cmp xs) (in_to_order coordinates_exact v.0 xs v.1)))
      (λ k i. let v = in_from_map place k (in_order coordinates_cmp xs) i in
      in_to_order nat_exact k (map place xs) (subst (λ (n : ℕ). IsIn n (map place xs)) (sym v.2) (in_map place v.0 xs (in_from_order coordinates_cmp v.0 xs v.1))))

  -- ---- a carrier

  place_first : (v : Coordinates) → place v ≡ position_or_len (λ w. is_same w v) vs
  place_first v = first_at (λ w. is_same w v) (λ ws. place_of ws v) refl (λ w ws. refl) vs

  -- what a list that is made of the region's cells has at the place of a cell
  at_place : (f : Coordinates → ℕ) (v : Coordinates) → IsIn v vs → slice_index (map f vs) (place v) ≡ f v
  at_place f v i =
      let within = first_within (λ w. is_same w v) vs v i ((is_same_Decides v v).1 refl) in
      ap (slice_index (map f vs)) (place_first v) ∙ get_or-map f vs (position_or_len (λ w. is_same w v) vs) v 0 within
      ∙ ap f ((is_same_Decides _ v).0 (passes_at_first (λ w. is_same w v) vs v within))

  carrier_is : (n : ℕ) → carrier vs n ≡ map (λ v. place (image_in vs n v)) vs
  carrier_is n = map-map place (image_in vs n) vs

  at_carrier : (n : ℕ) (v : Coordinates) → IsIn v vs → slice_index (carrier vs n) (place v) ≡ place (image_in vs n v)
  at_carrier n v i = ap (λ (g : List ℕ). slice_index g (place v)) (carrier_is n) ∙ at_place (λ w. place (image_in vs n w)) v i

  pub carrier_long : (n : ℕ) → length (carrier vs n) ≡ length vs
  carrier_long n = ap (λ (g : List ℕ). length g) (carrier_is n) ∙ length-map vs (λ v. place (image_in vs n v))

  -- the same place is that of the same cell
  pub place_tells : (v w : Coordinates) → IsIn v vs → IsIn w vs → place v ≡ place w → v ≡ w
  place_tells v w i j e = coordinates_exact v w (sym (same_order v w i j) ∙ ap (nat_cmp (place v)) (sym e) ∙ tied_itself nat_cmp_total (place v))

  -- where it brings places, in order
  pub carried_is : (n : ℕ) (cells : List Coordinates) → AreInside vs cells → AreInside vs (map (image_in vs n) cells)
      → in_order nat_cmp (carried (carrier vs n) (map place cells)) ≡ map place (image_of vs n cells)
  carried_is n cells a b =
      ap (in_order nat_cmp)
      (map-map (slice_index (carrier vs n)) place cells
      ∙ same_map (λ v. slice_index (carrier vs n) (place v)) (λ v. place (image_in vs n v)) cells (λ v i. at_carrier n v (a v i))
      ∙ sym (map-map place (image_in vs n) cells))
      ∙ places_in_order (map (image_in vs n) cells) b

  pub lowers_is : (n : ℕ) (cells : List Coordinates) → AreInside vs cells → AreInside vs (map (image_in vs n) cells)
      → lowers (map place cells) (carrier vs n) ≡ is_lt (cells_cmp (image_of vs n cells) cells)
  lowers_is n cells a b =
      ap is_lt (ap (λ (ks : List ℕ). forms_cmp ks (map place cells)) (carried_is n cells a b)
      ∙ same_orders (image_of vs n cells) cells (λ v i. b v (in_from_order coordinates_cmp v (map (image_in vs n) cells) i)) a)

-- ---- what passes a test of what it is made into

filter_step : {X Y : Type 0} (f : X → Y) (b : Bool) (x : X) (xs : List X) (ys : List Y) → ys ≡ map f xs → cond b (f x ∷ ys) ys ≡ map f (cond b (x ∷ xs) xs)
filter_step {X} {Y} f true x xs ys e = ap (λ (zs : List Y). f x ∷ zs) e
filter_step f false x xs ys e = e

filter_map : {X Y : Type 0} (f : X → Y) (test : Y → Bool) (xs : List X) → filter test (map f xs) ≡ map f (filter (λ x. test (f x)) xs)
filter_map f test [] = refl
filter_map f test (x ∷ xs) = filter_step f (test (f x)) x (filter (λ y. test (f y)) xs) (filter test (map f xs)) (filter_map f test xs)

-- what passes tests that agree on all members
pub same_filter_in : {X : Type 0} (f g : X → Bool) (xs : List X) → ((x : X) → IsIn x xs → f x ≡ g x) → filter f xs ≡ filter g xs
same_filter_in f g [] h = refl
same_filter_in {X} f g (x ∷ xs) h = ap₂ (λ b (ys : List X). cond b (x ∷ ys) ys) (h x (inl refl)) (same_filter_in f g xs (λ y i. h y (inr i)))

abbrev moves_at : PuzzleValue → Group → MovesValue
moves_at p group = record { puzzle = p; group = group }

-- ---- the symmetries of a group

module _ (p : PuzzleValue) (z : IsPuzzle p) (group : Group) (gs : List (List ℕ)) (all : AreCarriers group p.region p.maybe_cells gs) where
  shape : IsShape p.region
  shape = (has_shapes p z).region

  abbrev at : Coordinates → ℕ
  at = place_of p.region

  pub images_inside : (n : ℕ) → IsKept group p.region p.maybe_cells n → (cells : List Coordinates) → AreInside p.region cells → AreInside p.region (map (image_in p.region n) cells)
  images_inside n k cells a w i =
      let v = in_from_map (image_in p.region n) w cells i in
      subst (λ (u : Coordinates). IsIn u p.region) (sym v.2) (kept_stays group p.region p.maybe_cells n shape k v.0 (a v.0 v.1))

  -- carriers leave the places of the cells that the symmetries leave
  pub leaves_is : (t : Thing) → LiesInside p t → (n : ℕ) → IsKept group p.region p.maybe_cells n → leaves_place (fixed_place p.region t) (carrier p.region n) ≡ leaves_thing p t n
  leaves_is (a_piece name) i n k = refl
  leaves_is (a_cell v) i n k =
      same_tests (slice_index (carrier p.region n) (at v) == at v) (is_same (image_in p.region n v) v)
      (λ h. (is_same_Decides (image_in p.region n v) v).1
      (place_tells p.region shape (image_in p.region n v) v (kept_stays group p.region p.maybe_cells n shape k v i) i
      (sym (at_carrier p.region shape n v i) ∙ eqb-true (slice_index (carrier p.region n) (at v)) (at v) h)))
      (λ h. eq-eqb (slice_index (carrier p.region n) (at v)) (at v) (at_carrier p.region shape n v i ∙ ap at ((is_same_Decides (image_in p.region n v) v).0 h)))
  leaves_is (a_node name h) i n k = refl

  pub kept_there : (t : Thing) (n : ℕ) → IsKept group p.region p.maybe_cells n → leaves_thing p t n ≡ true → IsIn n (kept_at p group t)
  unfolding kept_at
  kept_there t n k h =
      in_filter (λ n. keeps_region p group n && leaves_thing p t n) n (range_with_len 0 48) (let lt = k.limit in in_to_range n 0 48 (omega arith) (omega (arith, lt)))
      (and_from (keeps_region p group n) (leaves_thing p t n) (from_kept p z group n k) h)

  pub there_kept : (t : Thing) (n : ℕ) → IsIn n (kept_at p group t) → IsKept group p.region p.maybe_cells n × (leaves_thing p t n ≡ true)
  unfolding kept_at
  there_kept t n i =
      let f = in_from_filter (λ n. keeps_region p group n && leaves_thing p t n) n (range_with_len 0 48) i in
      let lt = in_from_range n 0 48 f.0 in
      let one = and_parts (keeps_region p group n) (leaves_thing p t n) f.1 in
      (kept_from p z group n (omega (arith, lt)) one.0, one.1)

  abbrev goes_by : Option ℕ → List ℕ → List ℕ → Bool
  goes_by fixed places g = not (leaves_place fixed g && lowers places g)

  abbrev goes : List Coordinates → ℕ → Bool
  goes cells n = not (is_lt (cells_cmp (image_of p.region n cells) cells))

  none_left : (b c : Bool) → b ≡ true → not (b && c) ≡ true → not c ≡ true
  none_left true c e h = h
  none_left false c e h = absurd (both_ways false refl e)

  goes_past : (b c : Bool) → (b ≡ true → not c ≡ true) → not (b && c) ≡ true
  goes_past true c h = h refl
  goes_past false c h = refl

  least_from : (t : Thing) → LiesInside p t → (cells : List Coordinates) → AreInside p.region cells
      → is_least_by (fixed_place p.region t) (map at cells) gs ≡ true → is_least p.region (kept_at p group t) cells ≡ true
  least_from t inside cells a h =
      all_pass (goes cells) (kept_at p group t) (λ n i.
      let k = there_kept t n i in
      let g = carrier p.region n in
      let one = passes (goes_by (fixed_place p.region t) (map at cells)) gs h g ((all g).1 (n, k.0, refl)) in
      ap not (sym (lowers_is p.region shape n cells a (images_inside n k.0 cells a)))
      ∙ none_left (leaves_place (fixed_place p.region t) g) (lowers (map at cells) g) (leaves_is t inside n k.0 ∙ k.1) one)

  from_least : (t : Thing) → LiesInside p t → (cells : List Coordinates) → AreInside p.region cells
      → is_least p.region (kept_at p group t) cells ≡ true → is_least_by (fixed_place p.region t) (map at cells) gs ≡ true
  from_least t inside cells a h =
      all_pass (goes_by (fixed_place p.region t) (map at cells)) gs (λ g i.
      let n = (all g).0 i in
      goes_past (leaves_place (fixed_place p.region t) g) (lowers (map at cells) g) (λ stays.
      ap not (ap (lowers (map at cells)) n.2 ∙ lowers_is p.region shape n.0 cells a (images_inside n.0 n.1 cells a))
      ∙ passes (goes cells) (kept_at p group t) h n.0
      (kept_there t n.0 n.1 (sym (leaves_is t inside n.0 n.1) ∙ ap (leaves_place (fixed_place p.region t)) (sym n.2) ∙ stays))))

  -- the test by carriers is the test of the definition
  pub least_is : (t : Thing) → LiesInside p t → (cells : List Coordinates) → AreInside p.region cells
      → is_least_by (fixed_place p.region t) (map at cells) gs ≡ is_least p.region (kept_at p group t) cells
  least_is t inside cells a =
      same_tests (is_least_by (fixed_place p.region t) (map at cells) gs) (is_least p.region (kept_at p group t) cells) (least_from t inside cells a) (from_least t inside cells a)

  -- ---- cells at which some are first

  -- of the places of cells those remain at which they are first
  pub firsts_are : (cells : List Coordinates) (ks : List ℕ) → ArePlacesAmong p.region cells ks → filter (λ k. is_least_by (Some k) ks gs) ks ≡ first_of_cells (moves_at p group) cells
  firsts_are cells ks a =
      ap (λ (ns : List ℕ). filter (λ k. is_least_by (Some k) ns gs) ns) a.places_are
      ∙ filter_map at (λ k. is_least_by (Some k) (map at cells) gs) cells
      ∙ ap (map at)
      (same_filter_in (λ v. is_least_by (Some (at v)) (map at cells) gs) (is_first_at (moves_at p group) cells) cells
      (λ v i. least_is (a_cell v) (a.inside v i) cells a.inside))

  -- ---- the places that are looked up

  places_within : (cells : List Coordinates) → AreInside p.region cells → AreBelow (length p.region) (map at cells)
  places_within cells a k i =
      let v = in_from_map at k cells i in
      subst (λ (n : ℕ). n < length p.region) (sym v.2) (place_within p.region v.0 shape.rises (a v.0 v.1))

  carriers_long : (g : List ℕ) → IsIn g gs → length g ≡ length p.region
  carriers_long g i = let n = (all g).0 i in ap (λ (h : List ℕ). length h) n.2 ∙ carrier_long p.region shape n.0

  fixed_within : (t : Thing) → LiesInside p t → (k : ℕ) → fixed_place p.region t ≡ Some k → k < length p.region
  fixed_within (a_piece name) i k e = cc
  fixed_within (a_cell v) i k e =
      let same : at v ≡ k = cc in
      subst (λ (n : ℕ). n < length p.region) same (place_within p.region v shape.rises i)
  fixed_within (a_node name h) i k e = cc

  pub have_below : (ks : List ℕ) → AreBelow (length p.region) ks → (k : ℕ) → IsIn k ks → HavePlaces (Some k) ks gs
  have_below ks below k i = record {
    each = λ g h j m. subst (λ (n : ℕ). j < n) (sym (carriers_long g h)) (below j m);
    one = λ g h j e. subst (λ (n : ℕ). j < n) (sym (carriers_long g h)) (let same : k ≡ j = cc in subst (λ (n : ℕ). n < length p.region) same (below k i));
  }

  pub have_places : (t : Thing) → LiesInside p t → (cells : List Coordinates) → AreInside p.region cells → HavePlaces (fixed_place p.region t) (map at cells) gs
  have_places t inside cells a = record {
    each = λ g i k j. subst (λ (n : ℕ). k < n) (sym (carriers_long g i)) (places_within cells a k j);
    one = λ g i k e. subst (λ (n : ℕ). k < n) (sym (carriers_long g i)) (fixed_within t inside k e);
  }

-- ---- the same of what equals them

module _ (p : PuzzleValue) (z : IsPuzzle p) (group : Group) (gs : List (List ℕ)) (all : AreCarriers group p.region p.maybe_cells gs) (t : Thing) (inside : LiesInside p t)
    (cells : List Coordinates) (a : AreInside p.region cells) (fixed : Option ℕ) (ks : List ℕ) (hs : List (List ℕ))
    (f : fixed ≡ fixed_place p.region t) (k : ks ≡ map (place_of p.region) cells) (h : hs ≡ gs) where
  pub have_by : HavePlaces fixed ks hs
  have_by =
      subst (λ (o : Option ℕ). HavePlaces o ks hs) (sym f)
      (subst (λ (ns : List ℕ). HavePlaces (fixed_place p.region t) ns hs) (sym k)
      (subst (HavePlaces (fixed_place p.region t) (map (place_of p.region) cells)) (sym h) (have_places p z group gs all t inside cells a)))

  pub least_by : is_least_by fixed ks hs ≡ is_least p.region (kept_at p group t) cells
  least_by =
      ap (λ (o : Option ℕ). is_least_by o ks hs) f ∙ ap₂ (λ (ns : List ℕ) (us : List (List ℕ)). is_least_by (fixed_place p.region t) ns us) k h
      ∙ least_is p z group gs all t inside cells a
