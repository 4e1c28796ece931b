-- How many packings there are, told by those of the smaller problem.
use Rattle.std.proofs.Common.{◌≡◌, ℕ, ◌*◌, Bool, true, false, not, List, [], ◌∷◌, ◌⊎◌, map, filter, length, get_or, unwrap_or, inl, inr, refl, sym, ap, ap₂, subst, subst₂, ◌∙◌, arith, Option, Some, None}
use Rattle.std.specs.Ordering.{is_eq, is_lt}
use Rattle.std.specs.Cmp.{Equal-is}
use Rattle.std.specs.List.Sorted.{IsStrictlySortedBy}
use Rattle.std.proofs.lemmas.Bool.{cases_Bool, both_ways, true≢false, false≢true, or_cases}
use Rattle.std.proofs.lemmas.Cmp.{tied_itself}
use Rattle.std.proofs.lemmas.List.Sums.{sum_by-cons}
use Rattle.poly_cells.specs.Coordinates.{Coordinates, coordinates_cmp}
use Rattle.poly_cells.specs.Sets.{IsIn}
use Rattle.poly_cells.specs.Shapes.{IsShape}
use Rattle.poly_cells.proofs.SetLemmas.{cases_order, turned_back, in_map, in_from_map, in_from_order, in_to_order, in_order_rises, same_members}
use Rattle.poly_cells.proofs.MemberLemmas.{in_filter, in_from_filter, passes, same_function}
use Rattle.poly_cells.proofs.CoordinateLemmas.{coordinates_total, coordinates_exact}
use Rattle.shared_words.specs.Lists.{has}
use Rattle.poly_texts.specs.Puzzle.{PuzzleValue, IsPuzzle, pieces_of, names_of}
use Rattle.poly_place.specs.declared.alike.Group.{Group}
use Rattle.poly_place.specs.Placements.{cells_cmp}
use Rattle.poly_place.specs.Packings.{ChoiceValue, choice_with, packing_problem, SetStandsFor, Thing, a_node}
use Rattle.poly_place.specs.Chosen.{PackingValue, is_among, chosen_by}
use Rattle.poly_place.specs.Swaps.{AreEqual, IsSwap}
use Rattle.poly_place.specs.ClassCount.{image_in}
use Rattle.poly_place.specs.Forms.{IsKept}
use Rattle.poly_distinct.specs.Distinct.{image_of, CarriesPieces, is_at, IsAnchor, AreAllowed, HaveInverses, is_least, is_left_in, IsPath, IsMoved, smaller_problem, numbers_left, whole_path, AreTheCovers, AreDifferent, cells_at, images_by, images_counted}
use Rattle.poly_place.proofs.PlacedLemmas.{has_shapes}
use Rattle.poly_place.proofs.OrderLemmas.{cells_total, cells_exact}
use Rattle.poly_place.proofs.DistinctLemmas.{IsDistinct, distinct_rising}
use Rattle.poly_place.proofs.StandLemmas.{same_group}
use Rattle.poly_place.proofs.PackingLemmas.{one_cover}
use Rattle.poly_place.proofs.ChosenLemmas.{cover_packs, cover_stands, in_from_among, among_from_in}
use Rattle.poly_place.proofs.SwapLemmas.{count_swaps_once}
use Rattle.poly_distinct.proofs.ImagePackingLemmas.{in_image, from_image, tells, stays}
use Rattle.poly_distinct.proofs.MovedCoverLemmas.{inside_of, moved_path}
use Rattle.poly_distinct.proofs.AnchorLemmas.{image_twice, anchor_in, anchor_once, goes_to_anchor, left_there, brings_least}
use Rattle.poly_distinct.proofs.NewLemmas.{no_longer}
use Rattle.poly_distinct.proofs.PairListLemmas.{pairs_of, in_from_pairs, in_pairs, distinct_pairs, length_pairs}
use Rattle.poly_distinct.proofs.RestrictLemmas.{AreSame, same_on, same_back, same_map, number_of}
use Rattle.poly_distinct.proofs.SmallerLemmas.{whole_is_path, path_is_whole, same_packing, left_choices, different_whole}

-- ---- equal names

equal_on : (p : PuzzleValue) → IsPuzzle p → (a b c : ℕ) → AreEqual p a b → AreEqual p b c → AreEqual p a c
equal_on p z a b c x y =
    elim x [
      | inl e ↦ subst (λ (n : ℕ). AreEqual p n c) (sym e) y
      | inr g ↦ elim y [
        | inl e ↦ let h : AreEqual p a b = inr g in subst (λ (n : ℕ). AreEqual p a n) e h
        | inr h ↦ inr (g.0, g.1, g.2, subst (λ (k : List ℕ). IsIn c k) (same_group p z h.0 g.0 b h.1 g.1 h.2 g.3) h.3)
      ]
    ]

-- ---- a packing is told by what it is brought to

module _ (p : PuzzleValue) (z : IsPuzzle p) where
  named_in : (q : List ℕ) → IsPath p q → (c : ChoiceValue) → IsIn c (chosen_by p q) → IsIn c.name (names_of (pieces_of p))
  named_in q e c i = let h = (cover_packs p z q e).placed c (among_from_in (chosen_by p q) c i) in in_map (λ (m : ℕ × List Coordinates). m.0) (c.name, h.piece) (pieces_of p) h.named

  module _ (group : Group) (n : ℕ) (k : IsKept group p.region p.maybe_cells n) where
    -- cells with one image are the same
    image_tells : (xs ys : List Coordinates) → IsStrictlySortedBy coordinates_cmp xs → IsStrictlySortedBy coordinates_cmp ys → ((v : Coordinates) → IsIn v xs → IsIn v p.region) → ((v : Coordinates) → IsIn v ys → IsIn v p.region)
        → image_of p.region n xs ≡ image_of p.region n ys → xs ≡ ys
    image_tells xs ys r t i j e =
        same_members coordinates_total xs ys r t
        (λ v h. one xs ys i j e v h) (λ v h. one ys xs j i (sym e) v h)
      where
        one : (xs ys : List Coordinates) → ((v : Coordinates) → IsIn v xs → IsIn v p.region) → ((v : Coordinates) → IsIn v ys → IsIn v p.region) → image_of p.region n xs ≡ image_of p.region n ys
            → (v : Coordinates) → IsIn v xs → IsIn v ys
        one xs ys i j e v h =
            let region = (has_shapes p z).region in
            let there = subst (λ (us : List Coordinates). IsIn (image_in p.region n v) us) e (in_image group p.region p.maybe_cells n region k v xs h) in
            let w = from_image group p.region p.maybe_cells n region k (image_in p.region n v) ys there in
            subst (λ (u : Coordinates). IsIn u ys) (sym (tells group p.region p.maybe_cells n region k v w.0 (i v h) (j w.0 w.1) w.2)) w.1

    module _ (s : ℕ → ℕ) (keeps : CarriesPieces p s n) (q r t : List ℕ) (e : IsPath p q) (f : IsPath p r) (m : IsMoved p s n q t) (l : IsMoved p s n r t) where
      swap_of : (c : ChoiceValue) → IsIn c (chosen_by p q) → (d : ChoiceValue) × IsIn d (chosen_by p r) × (d.cells ≡ c.cells) × AreEqual p c.name d.name
      swap_of c i =
          let b = m.forth c i in
          let d = l.back b.0 b.1 in
          let one = (cover_packs p z q e).placed c (among_from_in (chosen_by p q) c i) in
          let two = (cover_packs p z r f).placed d.0 (among_from_in (chosen_by p r) d.0 d.1) in (
            d.0,
            d.1,
            image_tells d.0.cells c.cells two.rises one.rises two.placed.inside one.placed.inside (sym d.2 ∙ b.2),
            keeps.equal c.name d.0.name (named_in q e c i) (named_in r f d.0 d.1) (equal_on p z (s c.name) b.0.name (s d.0.name) b.3 d.3),
          )

  -- the same choices come of the same options
  same_choices : (q r : List ℕ) → IsPath p q → IsPath p r → ((c : ChoiceValue) → is_among (chosen_by p q) c ≡ is_among (chosen_by p r) c) → AreSame q r
  same_choices q r e f h =
      one_cover p z (has q) (has r) (is_among (chosen_by p r))
      (subst (λ (chosen : ChoiceValue → Bool). SetStandsFor p (has q) chosen) (same_function (is_among (chosen_by p q)) (is_among (chosen_by p r)) h) (cover_stands p z q e))
      (cover_stands p z r f)

  module _ (group : Group) (n : ℕ) (k : IsKept group p.region p.maybe_cells n) (s : ℕ → ℕ) (keeps : CarriesPieces p s n) where
    pub moved_tells : (q r t : List ℕ) → IsPath p q → IsPath p r → IsMoved p s n q t → IsMoved p s n r t → AreSame q r
    moved_tells q r t e f m l =
        let a = cover_packs p z q e in
        let b = cover_packs p z r f in
        let swaps = count_swaps_once p z in
        let itself : IsSwap p (is_among (chosen_by p q)) (is_among (chosen_by p q)) = record { forth = λ c h. (c, h, refl, inl refl); back = λ c h. (c, h, refl, inl refl) } in
        let other : IsSwap p (is_among (chosen_by p q)) (is_among (chosen_by p r)) = record {
          forth = λ c h.
              let d = swap_of group n k s keeps q r t e f m l c (in_from_among (chosen_by p q) c h) in
              (d.0, among_from_in (chosen_by p r) d.0 d.1, d.2, d.3);
          back = λ c h.
              let d = swap_of group n k s keeps r q t f e l m c (in_from_among (chosen_by p r) c h) in
              (d.0, among_from_in (chosen_by p q) d.0 d.1, d.2, d.3);
        } in
        same_choices q r e f (λ c. (swaps.once (is_among (chosen_by p q)) (swaps.apart (is_among (chosen_by p q)) a)).one (is_among (chosen_by p q)) (is_among (chosen_by p r)) a itself b other c)

  -- what is brought to the same options
  moved_on : (s : ℕ → ℕ) (n : ℕ) (q r t : List ℕ) → AreSame r t → IsMoved p s n q r → IsMoved p s n q t
  moved_on s n q r t same m =
      let e : chosen_by p r ≡ chosen_by p t = ap (λ (v : PackingValue). v.placements) (same_packing p z (a_node 0 0) [] r t same) in
      record {
        forth = λ c i. let d = m.forth c i in (d.0, subst (λ (cs : List ChoiceValue). IsIn d.0 cs) e d.1, d.2, d.3);
        back = λ d i. m.back d (subst (λ (cs : List ChoiceValue). IsIn d cs) (sym e) i);
      }

  -- ---- the cells at the anchor

  module _ (t : Thing) (a : IsAnchor p t) where
    first_in : (xs : List ChoiceValue) (d : ChoiceValue) (c : ChoiceValue) → IsIn c xs → IsIn (get_or xs 0 d) xs
    first_in [] d c i = absurd i
    first_in (x ∷ xs) d c i = inl refl

    pub cells_are : (q : List ℕ) → IsPath p q → (c : ChoiceValue) → IsIn c (chosen_by p q) → is_at t c ≡ true → cells_at p t q ≡ c.cells
    cells_are q e c i at =
        let d = get_or (filter (is_at t) (chosen_by p q)) 0 (choice_with 0 []) in
        let here = in_from_filter (is_at t) d (chosen_by p q) (first_in (filter (is_at t) (chosen_by p q)) (choice_with 0 []) c (in_filter (is_at t) c (chosen_by p q) i at)) in
        ap (λ (x : ChoiceValue). x.cells) (anchor_once p z t a (chosen_by p q) (cover_packs p z q e) d c here.0 i here.1 at)

    pub cells_same : (q r : List ℕ) → AreSame q r → cells_at p t q ≡ cells_at p t r
    cells_same q r s = ap (λ (v : PackingValue). (get_or (filter (is_at t) v.placements) 0 (choice_with 0 [])).cells) (same_packing p z (a_node 0 0) [] q r s)

    pub cells_inside : (q : List ℕ) → IsPath p q → (v : Coordinates) → IsIn v (cells_at p t q) → IsIn v p.region
    cells_inside q e v i =
        let c = anchor_in p z t a (chosen_by p q) (cover_packs p z q e) in
        inside_of p z q e c.0 c.1 v (subst (λ (us : List Coordinates). IsIn v us) (cells_are q e c.0 c.1 c.2) i)

    -- what a packing is brought to has the image of its cells at the anchor
    pub cells_moved : (group : Group) (ns : List ℕ) (allowed : AreAllowed p group t ns) (n : ℕ) (i : IsIn n ns) (q r : List ℕ) → IsPath p q → IsPath p r → IsMoved p (allowed.each n i).names n q r
        → cells_at p t r ≡ image_of p.region n (cells_at p t q)
    cells_moved group ns allowed n i q r e f m =
        let ok = allowed.each n i in
        let c = anchor_in p z t a (chosen_by p q) (cover_packs p z q e) in
        let d = m.forth c.0 c.1 in
        cells_are r f d.0 d.1 (goes_to_anchor p z group n t a ok.kept ok.names ok.thing c.0 d.0 d.2 d.3 c.2) ∙ d.2 ∙ ap (image_of p.region n) (sym (cells_are q e c.0 c.1 c.2))

-- ---- lists of different paths

pub different_once : (qs : List (List ℕ)) → AreDifferent qs → (q r : List ℕ) → IsIn q qs → IsIn r qs → AreSame q r → q ≡ r
different_once [] d q r i j a = absurd i
different_once (x ∷ xs) d q r i j a =
    elim i [
      | inl e ↦ elim j [
        | inl f ↦ e ∙ sym f
        | inr l ↦ absurd (d.0 r l (subst (λ (y : List ℕ). AreSame y r) e a))
      ]
      | inr k ↦ elim j [
        | inl f ↦ absurd (d.0 q k (same_back q x (subst (λ (y : List ℕ). AreSame q y) f a)))
        | inr l ↦ different_once xs d.1 q r k l a
      ]
    ]

pub different_distinct : (qs : List (List ℕ)) → AreDifferent qs → IsDistinct qs
different_distinct [] d = tt
different_distinct (x ∷ xs) d = ((λ i. d.0 x i (λ o. refl)), different_distinct xs d.1)

-- ---- images of images

image_back : (region : List Coordinates) (a b : ℕ) (cells : List Coordinates) → IsStrictlySortedBy coordinates_cmp cells → ((v : Coordinates) → IsIn v cells → image_in region a (image_in region b v) ≡ v)
    → image_of region a (image_of region b cells) ≡ cells
image_back region a b cells rises e =
    same_members coordinates_total (image_of region a (image_of region b cells)) cells (in_order_rises coordinates_total _) rises
    (λ w i.
    let v = in_from_map (image_in region a) w (image_of region b cells) (in_from_order coordinates_cmp w _ i) in
    let u = in_from_map (image_in region b) v.0 cells (in_from_order coordinates_cmp v.0 _ v.1) in
    subst (λ (x : Coordinates). IsIn x cells) (sym (e u.0 u.1) ∙ ap (image_in region a) (sym u.2) ∙ sym v.2) u.1)
    (λ w i.
    in_to_order coordinates_exact w (map (image_in region a) (image_of region b cells))
    (subst (λ (x : Coordinates). IsIn x (map (image_in region a) (image_of region b cells))) (e w i)
    (in_map (image_in region a) (image_in region b w) (image_of region b cells) (in_to_order coordinates_exact (image_in region b w) (map (image_in region b) cells) (in_map (image_in region b) w cells i)))))

not_less : (xs ys : List Coordinates) → is_lt (cells_cmp xs ys) ≡ false → is_lt (cells_cmp ys xs) ≡ false → xs ≡ ys
not_less xs ys a b =
    elim (cases_order (cells_cmp xs ys)) [
      | inl l ↦ absurd (true≢false (sym (ap is_lt l) ∙ a))
      | inr r ↦ elim r [ inl e ↦ cells_exact xs ys e | inr g ↦ absurd (true≢false (sym (ap is_lt (turned_back cells_total xs ys g)) ∙ b)) ]
    ]

some_is : {X : Type 0} (x y : X) → Some x ≡ Some y → x ≡ y
some_is x y e = ap (λ o. unwrap_or o x) e

module _ (p : PuzzleValue) (z : IsPuzzle p) (group : Group) (t : Thing) (a : IsAnchor p t) (ns : List ℕ) (allowed : AreAllowed p group t ns) (inverses : HaveInverses p ns) where
  -- one of the symmetries, which brings one set of cells to the other
  abbrev Found : List Coordinates → List Coordinates → Type 0
  Found xs ys = (n : ℕ) × IsIn n ns × (image_of p.region n xs ≡ ys)

  abbrev brings : List Coordinates → List Coordinates → ℕ → Bool
  brings xs ys m = is_eq (cells_cmp (image_of p.region m xs) ys)

  brings_to : (xs ys : List Coordinates) (m : ℕ) → brings xs ys m ≡ true → image_of p.region m xs ≡ ys
  brings_to xs ys m e = cells_exact (image_of p.region m xs) ys ((Equal-is (cells_cmp (image_of p.region m xs) ys)).0 e)

  to_brings : (xs ys : List Coordinates) (m : ℕ) → image_of p.region m xs ≡ ys → brings xs ys m ≡ true
  to_brings xs ys m e = (Equal-is (cells_cmp (image_of p.region m xs) ys)).1 (ap (λ (us : List Coordinates). cells_cmp us ys) e ∙ tied_itself cells_total ys)

  by_case : (xs ys : List Coordinates) (m : ℕ) → IsIn m ns → (brings xs ys m ≡ true) ⊎ (brings xs ys m ≡ false) → Option (Found xs ys) → Option (Found xs ys)
  by_case xs ys m here (inl e) rest = Some (m, here, brings_to xs ys m e)
  by_case xs ys m here (inr f) rest = rest

  search_in : (xs ys : List Coordinates) (ms : List ℕ) → ((n : ℕ) → IsIn n ms → IsIn n ns) → Option (Found xs ys)
  search_in xs ys [] up = None
  search_in xs ys (m ∷ ms) up = by_case xs ys m (up m (inl refl)) (cases_Bool (brings xs ys m)) (search_in xs ys ms (λ n i. up n (inr i)))

  case_found : (xs ys : List Coordinates) (m : ℕ) (here : IsIn m ns) (c : (brings xs ys m ≡ true) ⊎ (brings xs ys m ≡ false)) (rest : Option (Found xs ys))
      → (brings xs ys m ≡ false → (x : Found xs ys) × (rest ≡ Some x)) → (x : Found xs ys) × (by_case xs ys m here c rest ≡ Some x)
  unfolding by_case
  case_found xs ys m here (inl e) rest later = ((m, here, brings_to xs ys m e), refl)
  case_found xs ys m here (inr f) rest later = later f

  found_in : (xs ys : List Coordinates) (ms : List ℕ) (up : (n : ℕ) → IsIn n ms → IsIn n ns) (n : ℕ) → IsIn n ms → image_of p.region n xs ≡ ys → (x : Found xs ys) × (search_in xs ys ms up ≡ Some x)
  unfolding search_in
  found_in xs ys [] up n i e = absurd i
  found_in xs ys (m ∷ ms) up n i e =
      let later = found_in xs ys ms (λ k j. up k (inr j)) n in
      case_found xs ys m (up m (inl refl)) (cases_Bool (brings xs ys m)) (search_in xs ys ms (λ k j. up k (inr j))) (λ f. elim i [
        | inl same ↦ absurd (both_ways (brings xs ys m) f (to_brings xs ys m (ap (λ (k : ℕ). image_of p.region k xs) (sym same) ∙ e)))
        | inr j ↦ later j e
      ])

  -- the first of them
  search : (xs ys : List Coordinates) → Option (Found xs ys)
  search xs ys = search_in xs ys ns (λ n i. i)

  found : (xs ys : List Coordinates) (n : ℕ) → IsIn n ns → image_of p.region n xs ≡ ys → (x : Found xs ys) × (search xs ys ≡ Some x)
  unfolding search
  found xs ys n i e = found_in xs ys ns (λ m j. j) n i e

  -- ---- back

  region_is : IsShape p.region
  region_is = (has_shapes p z).region

  left_inverse : (n : ℕ) (i : IsIn n ns) → (c : ℕ) × IsIn c ns × ((v : Coordinates) → IsIn v p.region → image_in p.region c (image_in p.region n v) ≡ v)
  left_inverse n i =
      let c = inverses n i in
      let ok = (allowed.each n i).kept in
      let other = (allowed.each c.0 c.1).kept in (
        c.0,
        c.1,
        λ v h.
            let there = stays group p.region p.maybe_cells n region_is ok v h in
            tells group p.region p.maybe_cells n region_is ok (image_in p.region c.0 (image_in p.region n v)) v (stays group p.region p.maybe_cells c.0 region_is other (image_in p.region n v) there) h (c.2 (image_in p.region n v) there),
      )

  -- the least cells of those that are brought to one another are the same
  least_same : (xs ys zs : List Coordinates) (m n : ℕ) (i : IsIn m ns) (j : IsIn n ns) → IsStrictlySortedBy coordinates_cmp ys → ((v : Coordinates) → IsIn v xs → IsIn v p.region) → ((v : Coordinates) → IsIn v ys → IsIn v p.region)
      → image_of p.region m xs ≡ zs → image_of p.region n ys ≡ zs → is_least p.region ns xs ≡ true → is_lt (cells_cmp ys xs) ≡ false
  least_same xs ys zs m n i j rises x_in y_in e f least =
      let c = left_inverse n j in
      let both = allowed.composed c.0 m c.1 i in
      let is : image_of p.region both.0 xs ≡ ys =
      sym (image_twice p.region c.0 m both.0 xs (λ v h. both.2 v (x_in v h))) ∙ ap (image_of p.region c.0) (e ∙ sym f) ∙ image_back p.region c.0 n ys rises (λ v h. c.2 v (y_in v h)) in
      subst (λ (us : List Coordinates). is_lt (cells_cmp us xs) ≡ false) is (from_not _ (passes (λ k. not (is_lt (cells_cmp (image_of p.region k xs) xs))) ns least both.0 both.1))
    where
      from_not : (b : Bool) → not b ≡ true → b ≡ false
      from_not true h = cc
      from_not false h = refl

  -- ---- a packing and the packings of the smaller problem

  rises_at : (q : List ℕ) → IsPath p q → IsStrictlySortedBy coordinates_cmp (cells_at p t q)
  rises_at q e =
      let c = anchor_in p z t a (chosen_by p q) (cover_packs p z q e) in
      subst (λ (us : List Coordinates). IsStrictlySortedBy coordinates_cmp us) (sym (cells_are p z t a q e c.0 c.1 c.2)) ((cover_packs p z q e).placed c.0 (among_from_in (chosen_by p q) c.0 c.1)).rises

  -- the choice at the anchor of a packing all of whose choices are left in is the least one
  least_at : (q : List ℕ) → IsPath p q → ((c : ChoiceValue) → IsIn c (chosen_by p q) → is_left_in p t ns c ≡ true) → is_least p.region ns (cells_at p t q) ≡ true
  least_at q e left =
      let c = anchor_in p z t a (chosen_by p q) (cover_packs p z q e) in
      subst (λ (us : List Coordinates). is_least p.region ns us ≡ true) (sym (cells_are p z t a q e c.0 c.1 c.2))
      (elim (or_cases (not (is_at t c.0)) (is_least p.region ns c.0.cells) (left c.0 c.1)) [
        | inl off ↦ absurd (false≢true (sym (ap not c.2) ∙ off))
        | inr least ↦ least
      ])

  module _ (small : List (List ℕ)) (covers : AreTheCovers (smaller_problem p t ns) small) where
    abbrev wholes : List (List ℕ)
    wholes = map (whole_path p t ns) small

    abbrev pairs : List (List ℕ × List Coordinates)
    pairs = pairs_of (λ q. images_by p.region ns (cells_at p t q)) wholes

    whole_from : (w : List ℕ) → IsIn w wholes → IsPath p w × (is_least p.region ns (cells_at p t w) ≡ true)
    whole_from w i =
        let s = in_from_map (whole_path p t ns) w small i in
        let e = covers.sound s.0 s.1 in
        let path : IsPath p w = subst (λ (q : List ℕ). IsPath p q) (sym s.2) (whole_is_path p z t ns s.0 e) in
        (path, least_at w path (λ c j. left_choices p z t ns s.0 e c (subst (λ (q : List ℕ). IsIn c (chosen_by p q)) s.2 j)))

    -- the first symmetry that brings the cells of the one packing to those of the other brings it to the other one
    abbrev BroughtBy : (q w : List ℕ) (xs ys : List Coordinates) → Type 0
    BroughtBy q w xs ys = (x : Found xs ys) × (search xs ys ≡ Some x) × IsMoved p (allowed.each x.0 x.1).names x.0 q w

    -- a packing is brought to one of the smaller problem
    abbrev Matches : List ℕ → List ℕ × List Coordinates → Type 0
    Matches q w = (cells_at p t q ≡ w.1) × BroughtBy q w.0 w.1 (cells_at p t w.0)

    -- and one of the smaller problem to a packing
    abbrev Meets : List ℕ × List Coordinates → List ℕ → Type 0
    Meets w q = (cells_at p t q ≡ w.1) × BroughtBy w.0 q (cells_at p t w.0) w.1

    brought_once : (q r w : List ℕ) (xs ys : List Coordinates) → IsPath p q → IsPath p r → BroughtBy q w xs ys → BroughtBy r w xs ys → AreSame q r
    brought_once q r w xs ys e f x y =
        let same : y.0 ≡ x.0 = some_is y.0 x.0 (sym y.1 ∙ x.1) in
        let ok = allowed.each x.0.0 x.0.1 in
        moved_tells p z group x.0.0 ok.kept ok.names ok.pieces q r w e f x.2
        (subst (λ (u : Found xs ys). IsMoved p (allowed.each u.0 u.1).names u.0 r w) same y.2)

    -- ---- forth

    forth : (q : List ℕ) → IsPath p q → (w : List ℕ × List Coordinates) × IsIn w pairs × Matches q w
    forth q e =
        let xs = cells_at p t q in
        let c = anchor_in p z t a (chosen_by p q) (cover_packs p z q e) in
        let cells : xs ≡ c.0.cells = cells_are p z t a q e c.0 c.1 c.2 in
        let least = brings_least p z ns xs allowed.neutral in
        let ys = image_of p.region least.0 xs in
        let x = found xs ys least.0 least.1 refl in
        let n = x.0.0 in
        let i = x.0.1 in
        let ok = allowed.each n i in
        let r = moved_path p z group n ok.kept ok.names ok.pieces q e in
        let stays_left = left_there p z group t ns a allowed q e c.0 c.1 c.2 n i
        (λ m j. subst₂ (λ (us vs : List Coordinates). is_lt (cells_cmp (image_of p.region m us) vs) ≡ false) cells (sym x.0.2 ∙ ap (image_of p.region n) cells) (least.2 m j)) r.0 r.1 r.2 in
        let there = path_is_whole p z t ns r.0 r.1 stays_left in
        let s = covers.complete (has there.0) there.1 in
        let w = whole_path p t ns s.0 in
        let same : AreSame w r.0 = same_on w (whole_path p t ns there.0) r.0 (same_map (number_of (numbers_left p t ns)) (number_of (numbers_left p t ns)) s.0 there.0 s.2 (λ o h. refl)) there.2 in
        let at : ys ≡ cells_at p t w = sym (cells_same p z t a w r.0 same ∙ cells_moved p z t a group ns allowed n i q r.0 e r.1 r.2 ∙ x.0.2) in
        let back = left_inverse n i in
        let again : image_of p.region back.0 (cells_at p t w) ≡ xs = ap (image_of p.region back.0) (sym at ∙ sym x.0.2) ∙ image_back p.region back.0 n xs (rises_at q e) (λ v h. back.2 v (cells_inside p z t a q e v h)) in
        let by : BroughtBy q w xs (cells_at p t w) = subst (λ (us : List Coordinates). BroughtBy q w xs us) at (x.0, x.1, moved_on p z (allowed.each n i).names n q r.0 w (same_back w r.0 same) r.2) in (
          (w, xs),
          in_pairs (λ (u : List ℕ). images_by p.region ns (cells_at p t u)) wholes w xs (in_map (whole_path p t ns) s.0 small s.1)
              (in_to_order cells_exact xs (map (λ (m : ℕ). image_of p.region m (cells_at p t w)) ns)
              (subst (λ (us : List Coordinates). IsIn us (map (λ (m : ℕ). image_of p.region m (cells_at p t w)) ns)) again (in_map (λ (m : ℕ). image_of p.region m (cells_at p t w)) back.0 ns back.1))),
          (refl, by),
        )

    -- ---- backward

    backward : (w : List ℕ × List Coordinates) → IsIn w pairs → (q : List ℕ) × IsPath p q × Meets w q
    backward w j =
        let m = in_from_pairs (λ (u : List ℕ). images_by p.region ns (cells_at p t u)) wholes w j in
        let e = (whole_from w.0 m.0).0 in
        let n = in_from_map (λ (k : ℕ). image_of p.region k (cells_at p t w.0)) w.1 ns (in_from_order cells_cmp w.1 (map (λ (k : ℕ). image_of p.region k (cells_at p t w.0)) ns) m.1) in
        let x = found (cells_at p t w.0) w.1 n.0 n.1 (sym n.2) in
        let ok = allowed.each x.0.0 x.0.1 in
        let q = moved_path p z group x.0.0 ok.kept ok.names ok.pieces w.0 e in
        (q.0, q.1, (cells_moved p z t a group ns allowed x.0.0 x.0.1 w.0 q.0 e q.1 q.2 ∙ x.0.2, (x.0, x.1, q.2)))

    meets_on : (w : List ℕ × List Coordinates) (q r : List ℕ) → AreSame q r → Meets w q → Meets w r
    meets_on w q r s m = (sym (cells_same p z t a q r s) ∙ m.0, (m.1.0, m.1.1, moved_on p z (allowed.each m.1.0.0 m.1.0.1).names m.1.0.0 w.0 q r s m.1.2))

    module _ (d : AreDifferent small) where
      wholes_differ : AreDifferent wholes
      wholes_differ = different_whole p z t ns small covers.sound d

      pair_once : (q : List ℕ) (w u : List ℕ × List Coordinates) → IsIn w pairs → IsIn u pairs → Meets w q → Meets u q → w ≡ u
      pair_once q w u i j k m =
          let one = in_from_pairs (λ (y : List ℕ). images_by p.region ns (cells_at p t y)) wholes w i in
          let two = in_from_pairs (λ (y : List ℕ). images_by p.region ns (cells_at p t y)) wholes u j in
          let e = whole_from w.0 one.0 in
          let f = whole_from u.0 two.0 in
          let cells : w.1 ≡ u.1 = sym k.0 ∙ m.0 in
          let x = k.1.0 in
          let y = m.1.0 in
          let up = least_same (cells_at p t w.0) (cells_at p t u.0) u.1 x.0 y.0 x.1 y.1 (rises_at u.0 f.0) (cells_inside p z t a w.0 e.0) (cells_inside p z t a u.0 f.0) (x.2 ∙ cells) y.2 e.1 in
          let under = least_same (cells_at p t u.0) (cells_at p t w.0) w.1 y.0 x.0 y.1 x.1 (rises_at w.0 e.0) (cells_inside p z t a u.0 f.0) (cells_inside p z t a w.0 e.0) (y.2 ∙ sym cells) x.2 f.1 in
          let part : cells_at p t w.0 ≡ cells_at p t u.0 = not_less (cells_at p t w.0) (cells_at p t u.0) under up in
          let same = brought_once w.0 u.0 q (cells_at p t w.0) w.1 e.0 f.0 k.1 (subst₂ (λ (us vs : List Coordinates). BroughtBy u.0 q us vs) (sym part) (sym cells) m.1) in
          let path : w.0 ≡ u.0 = different_once wholes wholes_differ w.0 u.0 one.0 two.0 same in
          ap₂ (λ (y : List ℕ) (us : List Coordinates). let v : List ℕ × List Coordinates = (y, us) in v) path cells

      module _ (all : List (List ℕ)) (whole : AreTheCovers (packing_problem p) all) (apart : AreDifferent all) where
        pub counts : length all ≡ images_counted p t ns wholes
        unfolding images_counted
        counts =
            let here = no_longer Matches all pairs (different_distinct all apart) (λ q i. forth q (whole.sound q i))
            (λ q r w i j k l m. different_once all apart q r i j (brought_once q r w.0 w.1 (cells_at p t w.0) (whole.sound q i) (whole.sound r j) l.1 m.1)) in
            let there = no_longer Meets pairs all
            (distinct_pairs (λ (q : List ℕ). images_by p.region ns (cells_at p t q)) wholes (λ q. distinct_rising cells_total (images_by p.region ns (cells_at p t q)) (in_order_rises cells_total (map (λ (n : ℕ). image_of p.region n (cells_at p t q)) ns))) (different_distinct wholes wholes_differ))
            (λ w j.
            let q = backward w j in
            let r = whole.complete (has q.0) q.1 in
            (r.0, r.1, meets_on w q.0 r.0 (same_back r.0 q.0 r.2) q.2))
            (λ w u q i j k l m. pair_once q w u i j l m) in
            let long = length_pairs (λ (q : List ℕ). images_by p.region ns (cells_at p t q)) wholes in
            omega (arith, here, there, long)

-- ---- where each stands for as many

pub counted_same : (p : PuzzleValue) (t : Thing) (ns : List ℕ) (paths : List (List ℕ)) (k : ℕ) → ((q : List ℕ) → IsIn q paths → length (images_by p.region ns (cells_at p t q)) ≡ k) → images_counted p t ns paths ≡ length paths * k
unfolding images_counted
counted_same p t ns [] k h = omega arith
counted_same p t ns (q ∷ qs) k h =
    let one = h q (inl refl) in
    let rest = counted_same p t ns qs k (λ r i. h r (inr i)) in
    let sum = sum_by-cons (λ (r : List ℕ). length (images_by p.region ns (cells_at p t r))) q qs in
    omega (arith, one, rest, sum)
