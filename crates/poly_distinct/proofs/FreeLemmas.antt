-- Counting tells things apart: choices, if there are as many sets of cells as choices; and the ways in which a group moves the region's
-- cells by their images of a choice, if there are as many images as ways.
use Rattle.std.proofs.Common.{◌≡◌, ℕ, suc, ◌≤◌, ◌==◌, Bool, true, false, ◌&&◌, Option, Some, None, List, [], ◌∷◌, ◌⊎◌, map, length, unwrap_or, inl, inr, refl, sym, ap, ap₂, subst, ◌∙◌, arith, eqb-true}
use Rattle.std.specs.List.{list_any, range_with_len}
use Rattle.std.specs.Ordering.{is_eq}
use Rattle.std.specs.Cmp.{Equal-is}
use Rattle.std.proofs.lemmas.Bool.{cases_Bool, both_ways}
use Rattle.std.proofs.lemmas.Cmp.{tied_itself}
use Rattle.poly_cells.specs.Coordinates.{Coordinates, coordinates_cmp}
use Rattle.poly_cells.specs.Sets.{IsIn, in_order}
use Rattle.poly_cells.specs.Shapes.{IsShape}
use Rattle.poly_cells.proofs.SetLemmas.{in_map, in_from_map, in_from_order, in_to_order, in_order_rises, same_members}
use Rattle.poly_cells.proofs.MemberLemmas.{in_filter, in_from_filter, in_from_range, in_to_range, same_map, some_passes, passes_some}
use Rattle.poly_texts.specs.Puzzle.{PuzzleValue, IsPuzzle}
use Rattle.poly_place.specs.declared.alike.Group.{Group}
use Rattle.poly_place.specs.Placements.{cells_cmp}
use Rattle.poly_place.specs.Packings.{ChoiceValue, every_choice, place_of}
use Rattle.poly_place.specs.Chosen.{same_choice}
use Rattle.poly_place.specs.ClassCount.{image_in}
use Rattle.poly_place.specs.Forms.{IsKept, AreCarriers, carrier, forms_cmp}
use Rattle.poly_place.proofs.PlacedLemmas.{has_shapes}
use Rattle.poly_place.proofs.OrderLemmas.{cells_total, cells_exact}
use Rattle.poly_place.proofs.KeyLemmas.{forms_total, forms_exact}
use Rattle.poly_place.proofs.DistinctLemmas.{IsDistinct, distinct_map, distinct_rising}
use Rattle.poly_place.proofs.PackingLemmas.{same_choice_is, same_choice_itself}
use Rattle.poly_place.proofs.CarryLemmas.{kept_stays, maps_at}
use Rattle.poly_distinct.specs.Distinct.{image_of, images_by, keeps_region}
use Rattle.poly_distinct.specs.Free.{cell_sets, have_own_cells, region_symmetries, carriers_by, carrier_count, is_number, acts_freely}
use Rattle.poly_distinct.specs.UpTo.{each_stands}
use Rattle.poly_distinct.proofs.AllowedLemmas.{kept_from, from_kept}
use Rattle.poly_distinct.proofs.MovesLemmas.{AreInside, place_tells}
use Rattle.poly_distinct.proofs.NewLemmas.{no_longer}
use mathlib.Core.List.{map-map}

-- ---- as many as what they are matched with

some_is : {Y : Type 0} (x y : Y) → Some x ≡ Some y → x ≡ y
some_is x y e = ap (λ o. unwrap_or o x) e

-- each of the different ys is matched with one of the xs, which are no more than the ys, and each x with one y at most: then no two of
-- the xs are matched with one y
module _ {X Y : Type 0} (F : X → Y → Type 0) (decide : (x z : X) → (x ≡ z) ⊎ (x ≡ z → ⊥)) (xs : List X) (ys : List Y) (d : IsDistinct ys) (long : length xs ≤ length ys)
    (met : (y : Y) → IsIn y ys → (x : X) × IsIn x xs × F x y) (one : (x : X) (y u : Y) → F x y → F x u → y ≡ u) where
  module _ (x z : X) (y : Y) (i : IsIn x xs) (j : IsIn z xs) (k : IsIn y ys) (f : F x y) (g : F z y) (differ : x ≡ z → ⊥) where
    -- z goes to none of the ys, and each y to one of the xs that isn't z
    abbrev Gives : Option Y → X → Type 0
    Gives None w = w ≡ z
    Gives (Some u) w = F w u × (w ≡ z → ⊥)

    gives : (u : Y) (w : X) → IsIn w xs → F w u → (w ≡ z) ⊎ (w ≡ z → ⊥) → (v : X) × IsIn v xs × Gives (Some u) v
    gives u w l h (inl e) = (x, i, (subst (λ (t : Y). F x t) (one z y u g (subst (λ (t : X). F t u) e h)) f, differ))
    gives u w l h (inr n) = (w, l, (h, n))

    chosen : (o : Option Y) → IsIn o (None ∷ map Some ys) → (w : X) × IsIn w xs × Gives o w
    chosen o (inl e) = (z, j, subst (λ (p : Option Y). Gives p z) (sym e) refl)
    chosen o (inr l) =
        let u = in_from_map Some o ys l in
        let w = met u.0 u.1 in
        let v = gives u.0 w.0 w.1 w.2 (decide w.0 z) in
        (v.0, v.1, subst (λ (p : Option Y). Gives p v.0) (sym u.2) v.2)

    once : (o p : Option Y) (w : X) → Gives o w → Gives p w → o ≡ p
    once None None w a b = refl
    once None (Some u) w a b = absurd (b.1 a)
    once (Some u) None w a b = absurd (a.1 b)
    once (Some u) (Some v) w a b = ap Some (one w u v a.0 b.0)

    none_else : IsIn None (map Some ys) → ⊥
    none_else l = let u = in_from_map Some None ys l in absurd (let e : None ≡ Some u.0 = u.2 in cc)

    never : ⊥
    never =
        let more = no_longer Gives (None ∷ map Some ys) xs (none_else, distinct_map Some ys (λ u v. some_is u v) d) chosen (λ o p w l m n. once o p w) in
        let same = length_some ys in
        absurd (omega (arith, more, same, long))
      where
        length_some : (us : List Y) → length (map Some us) ≡ length us
        length_some [] = refl
        length_some (u ∷ us) = ap suc (length_some us)

  pub matched_once : (x z : X) (y : Y) → IsIn x xs → IsIn z xs → IsIn y ys → F x y → F z y → x ≡ z
  matched_once x z y i j k f g = elim (decide x z) [ inl e ↦ e | inr n ↦ absurd (never x z y i j k f g n) ]

-- ---- choices with cells of their own

same_or_not : (c d : ChoiceValue) → (c ≡ d) ⊎ (c ≡ d → ⊥)
same_or_not c d =
    elim (cases_Bool (same_choice c d)) [
      | inl e ↦ inl (same_choice_is c d e)
      | inr e ↦ inr (λ f. both_ways (same_choice c d) e (subst (λ (b : ChoiceValue). same_choice c b ≡ true) f (same_choice_itself c)))
    ]

pub told_by_cells : (p : PuzzleValue) → have_own_cells p ≡ true → (c d : ChoiceValue) → IsIn c (every_choice p) → IsIn d (every_choice p) → c.cells ≡ d.cells → c ≡ d
unfolding have_own_cells
told_by_cells p own c d i j e =
    let all = every_choice p in
    let sets = map (λ (b : ChoiceValue). b.cells) all in
    let long = eqb-true (length (cell_sets all)) (length all) own in
    matched_once (λ (b : ChoiceValue) (us : List Coordinates). us ≡ b.cells) same_or_not all (cell_sets all) (distinct_rising cells_total (cell_sets all) (in_order_rises cells_total sets)) (omega (arith, long))
    (λ us k. in_from_map (λ (b : ChoiceValue). b.cells) us all (in_from_order cells_cmp us sets k))
    (λ b us vs f g. f ∙ sym g)
    c d c.cells i j (in_to_order cells_exact c.cells sets (in_map (λ (b : ChoiceValue). b.cells) c all i)) refl e

-- ---- ways in which the region's cells are moved

same_list : (g h : List ℕ) → (g ≡ h) ⊎ (g ≡ h → ⊥)
same_list g h =
    elim (cases_Bool (is_eq (forms_cmp g h))) [
      | inl e ↦ inl (forms_exact g h ((Equal-is (forms_cmp g h)).0 e))
      | inr e ↦ inr (λ f. both_ways (is_eq (forms_cmp g h)) e ((Equal-is (forms_cmp g h)).1 (subst (λ (k : List ℕ). forms_cmp g k ≡ forms_cmp g g) f refl ∙ tied_itself forms_total g)))
    ]

module _ (p : PuzzleValue) (z : IsPuzzle p) (group : Group) where
  shape : IsShape p.region
  shape = (has_shapes p z).region

  abbrev Keeps : ℕ → Type 0
  Keeps n = IsKept group p.region p.maybe_cells n

  abbrev ways : List (List ℕ)
  ways = carriers_by p.region (region_symmetries p group)

  way_in : (n : ℕ) → Keeps n → IsIn (carrier p.region n) ways
  way_in n k =
      in_to_order forms_exact (carrier p.region n) (map (carrier p.region) (region_symmetries p group))
      (in_map (carrier p.region) n (region_symmetries p group)
      (in_filter (keeps_region p group) n (range_with_len 0 48) (let lt = k.limit in in_to_range n 0 48 (omega arith) (omega (arith, lt))) (from_kept p z group n k)))

  -- moved in one way, cells have one image
  pub one_image : (a b : ℕ) → Keeps a → Keeps b → carrier p.region a ≡ carrier p.region b → (v : Coordinates) → IsIn v p.region → image_in p.region a v ≡ image_in p.region b v
  one_image a b k l e v i =
      place_tells p.region shape (image_in p.region a v) (image_in p.region b v) (kept_stays group p.region p.maybe_cells a shape k v i) (kept_stays group p.region p.maybe_cells b shape l v i)
      (maps_at (place_of p.region) (image_in p.region a) (λ (u : Coordinates). place_of p.region (image_in p.region b u)) p.region (e ∙ map-map (place_of p.region) (image_in p.region b) p.region) v i)

  pub one_image_of : (a b : ℕ) (cells : List Coordinates) → AreInside p.region cells → Keeps a → Keeps b → carrier p.region a ≡ carrier p.region b → image_of p.region a cells ≡ image_of p.region b cells
  one_image_of a b cells inside k l e =
      ap (in_order coordinates_cmp) (same_map (image_in p.region a) (image_in p.region b) cells (λ v i. one_image a b k l e v (inside v i)))

  -- if there is one way, all symmetries move the cells so
  pub one_way : carrier_count p group ≡ 1 → (a b : ℕ) → Keeps a → Keeps b → carrier p.region a ≡ carrier p.region b
  unfolding carrier_count
  one_way e a b k l = both_first ways e (carrier p.region a) (carrier p.region b) (way_in a k) (way_in b l)
    where
      both_first : (gs : List (List ℕ)) → length gs ≡ 1 → (g h : List ℕ) → IsIn g gs → IsIn h gs → g ≡ h
      both_first [] e g h i j = absurd i
      both_first (f ∷ []) e g h i j = elim i [ inl x ↦ elim j [ inl y ↦ x ∙ sym y | inr none ↦ absurd none ] | inr none ↦ absurd none ]
      both_first (f ∷ m ∷ ms) e g h i j = absurd (omega (arith, e))

  -- ---- as many images as ways

  module _ (ns : List ℕ) (each : (n : ℕ) → IsIn n ns → Keeps n) (cells : List Coordinates) (inside : AreInside p.region cells) (many : length (images_by p.region ns cells) ≡ carrier_count p group) where
    abbrev images : List (List Coordinates)
    images = images_by p.region ns cells

    -- the way in which a symmetry moves the region's cells, and its image of these cells
    abbrev Moves : List ℕ → List Coordinates → Type 0
    Moves g us = (n : ℕ) × Keeps n × (g ≡ carrier p.region n) × (us ≡ image_of p.region n cells)

    moves_once : (g : List ℕ) (us vs : List Coordinates) → Moves g us → Moves g vs → us ≡ vs
    moves_once g us vs m n = m.3 ∙ one_image_of m.0 n.0 cells inside m.1 n.1 (sym m.2 ∙ n.2) ∙ sym n.3

    differ : IsDistinct images
    differ = distinct_rising cells_total images (in_order_rises cells_total (map (λ n. image_of p.region n cells) ns))

    from_image : (us : List Coordinates) → IsIn us images → (n : ℕ) × IsIn n ns × (us ≡ image_of p.region n cells)
    from_image us i = in_from_map (λ n. image_of p.region n cells) us ns (in_from_order cells_cmp us (map (λ n. image_of p.region n cells) ns) i)

    met : (us : List Coordinates) → IsIn us images → (g : List ℕ) × IsIn g ways × Moves g us
    met us i =
        let n = from_image us i in
        (carrier p.region n.0, way_in n.0 (each n.0 n.1), (n.0, each n.0 n.1, refl, n.2))

    -- one image tells one way
    pub told_by_image : (a b : ℕ) → Keeps a → Keeps b → IsIn (image_of p.region a cells) images → image_of p.region a cells ≡ image_of p.region b cells → carrier p.region a ≡ carrier p.region b
    unfolding carrier_count
    told_by_image a b k l i e =
        matched_once Moves same_list ways images differ (omega (arith, many)) met moves_once
        (carrier p.region a) (carrier p.region b) (image_of p.region a cells) (way_in a k) (way_in b l) i (a, k, refl, refl) (b, l, refl, e)

    -- each image is that of one of the symmetries
    reached : (n : ℕ) → Keeps n → IsIn (image_of p.region n cells) images
    unfolding carrier_count
    reached n k =
        let there = image_of p.region n cells in
        elim (cases_Bool (list_any (λ us. is_eq (cells_cmp there us)) images)) [
          | inl h ↦ let us = some_passes (λ us. is_eq (cells_cmp there us)) images h in subst (λ (vs : List Coordinates). IsIn vs images) (sym (cells_exact there us.0 ((Equal-is (cells_cmp there us.0)).0 us.2))) us.1
          | inr h ↦
              let new : IsIn there images → ⊥ = λ i. both_ways _ h (passes_some (λ us. is_eq (cells_cmp there us)) there images i ((Equal-is (cells_cmp there there)).1 (tied_itself cells_total there))) in
              let more = no_longer (λ (us : List Coordinates) (g : List ℕ). Moves g us) (there ∷ images) ways (new, differ)
              (λ us i. elim i [ inl e ↦ (carrier p.region n, way_in n k, (n, k, refl, e)) | inr j ↦ met us j ])
              (λ us vs g i j l a b. moves_once g us vs a b) in
              absurd (omega (arith, more, many))
        ]

    -- so one of the symmetries moves the cells in the way of each that is kept
    pub same_way : (n : ℕ) → Keeps n → (m : ℕ) × IsIn m ns × (carrier p.region n ≡ carrier p.region m)
    same_way n k =
        let i = reached n k in
        let m = from_image (image_of p.region n cells) i in
        (m.0, m.1, told_by_image n m.0 k (each m.0 m.1) i m.2)

    -- and what keeps the cells moves nothing
    pub kept_by_none : (n : ℕ) → Keeps n → IsIn 0 ns → image_of p.region n cells ≡ image_of p.region 0 cells → carrier p.region n ≡ carrier p.region 0
    kept_by_none n k i e = told_by_image n 0 k (each 0 i) (reached n k) e

-- ---- by carriers

-- carriers put in order are the ways in which the region's cells are moved
pub ways_counted : (p : PuzzleValue) → IsPuzzle p → (group : Group) (region maybe : List Coordinates) (gs sorted : List (List ℕ)) (n : ℕ) → region ≡ p.region → maybe ≡ p.maybe_cells → AreCarriers group region maybe gs
    → sorted ≡ in_order forms_cmp gs → n ≡ length sorted → n ≡ carrier_count p group
unfolding carrier_count
ways_counted p z group region maybe gs sorted n r m all o e =
    let all_of : AreCarriers group p.region p.maybe_cells gs = subst (λ (vs : List Coordinates). AreCarriers group vs p.maybe_cells gs) r (subst (λ (vs : List Coordinates). AreCarriers group region vs gs) m all) in
    e ∙ ap (λ (hs : List (List ℕ)). length hs)
    (o ∙ same_members forms_total (in_order forms_cmp gs) (carriers_by p.region (region_symmetries p group)) (in_order_rises forms_total gs) (in_order_rises forms_total (map (carrier p.region) (region_symmetries p group)))
    (λ g i. let n = (all_of g).0 (in_from_order forms_cmp g gs i) in subst (λ (h : List ℕ). IsIn h (carriers_by p.region (region_symmetries p group))) (sym n.2) (way_in p z group n.0 n.1))
    (λ g i.
    let n = in_from_map (carrier p.region) g (region_symmetries p group) (in_from_order forms_cmp g (map (carrier p.region) (region_symmetries p group)) i) in
    in_to_order forms_exact g gs ((all_of g).1 (n.0, kept_from_list p z group n.0 n.1, n.2))))
  where
    kept_from_list : (p : PuzzleValue) → IsPuzzle p → (group : Group) (n : ℕ) → IsIn n (region_symmetries p group) → IsKept group p.region p.maybe_cells n
    kept_from_list p z group n i =
        let f = in_from_filter (keeps_region p group) n (range_with_len 0 48) i in
        let lt = in_from_range n 0 48 f.0 in
        kept_from p z group n (omega (arith, lt)) f.1

-- as many sets of cells as choices
pub own_counted : (p : PuzzleValue) (cs : List ChoiceValue) (sets sorted : List (List Coordinates)) (n : ℕ) → cs ≡ every_choice p → sets ≡ map (λ (c : ChoiceValue). c.cells) cs → sorted ≡ in_order cells_cmp sets → n ≡ length sorted
    → (n == length cs) ≡ have_own_cells p
unfolding have_own_cells
own_counted p cs sets sorted n c s o e =
    ap₂ (λ (m k : ℕ). m == k) (e ∙ ap (λ (us : List (List Coordinates)). length us) (o ∙ ap (in_order cells_cmp) (s ∙ ap (map (λ (b : ChoiceValue). b.cells)) c))) (ap (λ (bs : List ChoiceValue). length bs) c)

-- ---- whether the anchor is free

no_if_not : (b : Bool) → false ≡ (b && false)
no_if_not true = refl
no_if_not false = refl

pub not_by_cells : (p : PuzzleValue) (group : Group) (own : Bool) → own ≡ have_own_cells p → own ≡ false → false ≡ acts_freely p group
unfolding acts_freely
not_by_cells p group own e f = ap (λ (b : Bool). b && is_number (carrier_count p group) (each_stands p group)) (sym f ∙ e)

pub not_by_number : (p : PuzzleValue) (group : Group) (each : Option ℕ) → each ≡ each_stands p group → each ≡ None → false ≡ acts_freely p group
unfolding acts_freely
not_by_number p group each e f = no_if_not (have_own_cells p) ∙ ap (λ (o : Option ℕ). have_own_cells p && is_number (carrier_count p group) o) (sym f ∙ e)

pub free_by_number : (p : PuzzleValue) (group : Group) (own : Bool) (each : Option ℕ) (k n : ℕ) → own ≡ have_own_cells p → own ≡ true → each ≡ each_stands p group → each ≡ Some k → n ≡ carrier_count p group → (k == n) ≡ acts_freely p group
unfolding acts_freely
free_by_number p group own each k n o t e s w =
    ap (λ (m : ℕ). k == m) w ∙ ap₂ (λ (b : Bool) (a : Option ℕ). b && is_number (carrier_count p group) a) (sym t ∙ o) (sym s ∙ e)
