-- If the group acts freely at an anchor, packings that are alike and keep their choice at the anchor are the same.
use Rattle.std.proofs.Common.{◌≡◌, ℕ, zero, suc, ◌<◌, ◌==◌, nat_le, Bool, true, false, not, List, map, length, inl, inr, refl, sym, ap, subst, ◌∙◌, arith, eqb-true, eq-eqb, leb-true}
use Rattle.std.specs.Ordering.{is_lt, nat_cmp}
use Rattle.std.specs.Cmp.{both_ways as same_tests}
use Rattle.std.specs.List.Sorted.{IsStrictlySortedBy}
use Rattle.std.proofs.lemmas.Bool.{true≢false, ne_eqb}
use Rattle.poly_cells.specs.Coordinates.{Coordinates, coordinates_cmp}
use Rattle.poly_cells.specs.Sets.{IsIn, in_order}
use Rattle.poly_cells.specs.Shapes.{IsShape}
use Rattle.poly_cells.proofs.SetLemmas.{cases_order, turned_back, in_from_map, in_from_order, in_order_rises, same_members}
use Rattle.poly_cells.proofs.MemberLemmas.{in_from_filter, passes, same_function}
use Rattle.poly_cells.proofs.CoordinateLemmas.{coordinates_total}
use Rattle.shared_words.specs.Lists.{has}
use Rattle.poly_texts.specs.Puzzle.{PuzzleValue, IsPuzzle}
use Rattle.poly_place.specs.declared.alike.Group.{Group}
use Rattle.poly_place.specs.Placements.{cells_cmp}
use Rattle.poly_place.specs.Packings.{ChoiceValue, IsPlaced, SetStandsFor, Thing, first_cell, every_choice, choice_at, laying_count}
use Rattle.poly_place.specs.Chosen.{is_among, chosen_by, laying, packing_value}
use Rattle.poly_place.specs.Classes.{part_at}
use Rattle.poly_place.specs.ClassCount.{image_in}
use Rattle.poly_place.specs.Forms.{IsKept, carrier}
use Rattle.poly_place.proofs.PlacedLemmas.{has_shapes}
use Rattle.poly_place.proofs.OrderLemmas.{cells_total, cells_exact}
use Rattle.poly_place.proofs.PackingLemmas.{one_cover}
use Rattle.poly_place.proofs.ChosenLemmas.{cover_packs, cover_stands, in_from_among, among_from_in}
use Rattle.poly_place.proofs.StandLemmas.{chosen_in, least_in}
use Rattle.poly_place.proofs.ClassLemmas.{matched}
use Rattle.poly_place.proofs.PartLemmas.{AreApart, one_part, part_some, same_part_of}
use Rattle.poly_place.proofs.FormLemmas.{PartAlike}
use Rattle.poly_place.proofs.CarryLemmas.{neutral_kept, neutral_stays}
use Rattle.poly_distinct.specs.Distinct.{image_of, images_by, IsAnchor, AreAllowed, IsPath, is_least, cells_at}
use Rattle.poly_distinct.specs.Free.{have_own_cells, carrier_count}
use Rattle.poly_distinct.proofs.ImagePackingLemmas.{in_image, from_image, comes_from}
use Rattle.poly_distinct.proofs.MovedCoverLemmas.{inside_of, moved_path}
use Rattle.poly_distinct.proofs.LaidLemmas.{LaysImages}
use Rattle.poly_distinct.proofs.RestrictLemmas.{AreSame, in_has}
use Rattle.poly_distinct.proofs.AnchorLemmas.{anchor_in}
use Rattle.poly_distinct.proofs.CountedLemmas.{cells_are, cells_same, cells_moved, cells_inside}
use Rattle.poly_distinct.proofs.NewLemmas.{AreLikePaths, like_back}
use Rattle.poly_distinct.proofs.FreeLemmas.{told_by_cells, one_image_of, same_way, kept_by_none}

-- ---- what is alike is laid on images

module _ (group : Group) (vs ms : List Coordinates) (n : ℕ) (s : IsShape vs) (k : IsKept group vs ms n) (cs ds : List ChoiceValue)
    (here : (c : ChoiceValue) → IsIn c cs → (v : Coordinates) → IsIn v c.cells → IsIn v vs) (there : (d : ChoiceValue) → IsIn d ds → (v : Coordinates) → IsIn v d.cells → IsIn v vs)
    (rises : (d : ChoiceValue) → IsIn d ds → IsStrictlySortedBy coordinates_cmp d.cells) (a : AreApart cs) (b : AreApart ds) (m : PartAlike vs (part_at cs) (λ v. part_at ds (image_in vs n v))) where
  some_or_none : (x : ℕ) → (x == 0) ≡ false → 0 < x
  some_or_none zero h = cc
  some_or_none (suc x) h = omega arith

  none_or_some : (x : ℕ) → 0 < x → (x == 0) ≡ false
  none_or_some x h = ne_eqb x 0 (λ e. absurd (omega (arith, h, e)))

  some_there : (v : Coordinates) → IsIn v vs → 0 < part_at cs v → 0 < part_at ds (image_in vs n v)
  some_there v i h = some_or_none (part_at ds (image_in vs n v)) (sym (m.empty v i) ∙ none_or_some (part_at cs v) h)

  some_here : (v : Coordinates) → IsIn v vs → 0 < part_at ds (image_in vs n v) → 0 < part_at cs v
  some_here v i h = some_or_none (part_at cs v) (m.empty v i ∙ none_or_some (part_at ds (image_in vs n v)) h)

  part_there : (v w : Coordinates) → IsIn v vs → IsIn w vs → part_at cs v ≡ part_at cs w → part_at ds (image_in vs n v) ≡ part_at ds (image_in vs n w)
  part_there v w i j e =
      eqb-true (part_at ds (image_in vs n v)) (part_at ds (image_in vs n w)) (sym (m.parts v w i j) ∙ eq-eqb (part_at cs v) (part_at cs w) e)

  part_here : (v w : Coordinates) → IsIn v vs → IsIn w vs → part_at ds (image_in vs n v) ≡ part_at ds (image_in vs n w) → part_at cs v ≡ part_at cs w
  part_here v w i j e =
      eqb-true (part_at cs v) (part_at cs w) (m.parts v w i j ∙ eq-eqb (part_at ds (image_in vs n v)) (part_at ds (image_in vs n w)) e)

  -- a choice that has the image of a cell has the images of the other cells of its choice, and no others
  is_image : (c d : ChoiceValue) (v : Coordinates) → IsIn c cs → IsIn d ds → IsIn v c.cells → IsIn (image_in vs n v) d.cells → d.cells ≡ image_of vs n c.cells
  is_image c d v i j x y =
      let v_in = here c i v x in
      let some = part_some cs v c i x in
      same_members coordinates_total d.cells (image_of vs n c.cells) (rises d j) (in_order_rises coordinates_total (map (image_in vs n) c.cells))
      (λ w l.
      let u = comes_from group vs ms n s k w (there d j w l) in
      let at : IsIn (image_in vs n u.0) d.cells = subst (λ (t : Coordinates). IsIn t d.cells) (sym u.2) l in
      let one = one_part cs v u.0 (part_here v u.0 v_in u.1 (same_part_of ds (image_in vs n v) (image_in vs n u.0) b (d, j, y, at))) some in
      let same : one.0 ≡ c = a v one.0 c one.1 i one.2 x in
      subst (λ (t : Coordinates). IsIn t (image_of vs n c.cells)) u.2 (in_image group vs ms n s k u.0 c.cells (subst (λ (e : ChoiceValue). IsIn u.0 e.cells) same one.3)))
      (λ w l.
      let u = from_image group vs ms n s k w c.cells l in
      let one = one_part ds (image_in vs n v) (image_in vs n u.0) (part_there v u.0 v_in (here c i u.0 u.1) (same_part_of cs v u.0 a (c, i, x, u.1))) (some_there v v_in some) in
      let same : one.0 ≡ d = b (image_in vs n v) one.0 d one.1 j one.2 y in
      subst (λ (t : Coordinates). IsIn t d.cells) (sym u.2) (subst (λ (e : ChoiceValue). IsIn (image_in vs n u.0) e.cells) same one.3))

  pub lays_images : ((c : ChoiceValue) → IsIn c cs → (v : Coordinates) × IsIn v c.cells) → ((d : ChoiceValue) → IsIn d ds → (v : Coordinates) × IsIn v d.cells) → LaysImages vs n cs ds
  lays_images some_c some_d = record {
    forth = λ c i.
        let v = some_c c i in
        let v_in = here c i v.0 v.1 in
        let d = one_part ds (image_in vs n v.0) (image_in vs n v.0) refl (some_there v.0 v_in (part_some cs v.0 c i v.1)) in
        (d.0, d.1, is_image c d.0 v.0 i d.1 v.1 d.2);
    back = λ d j.
        let w = some_d d j in
        let u = comes_from group vs ms n s k w.0 (there d j w.0 w.1) in
        let at : IsIn (image_in vs n u.0) d.cells = subst (λ (t : Coordinates). IsIn t d.cells) (sym u.2) w.1 in
        let c = one_part cs u.0 u.0 refl (some_here u.0 u.1 (part_some ds (image_in vs n u.0) d j at)) in
        (c.0, c.1, is_image c.0 d u.0 c.1 j c.2 at);
  }

-- ---- packings

module _ (p : PuzzleValue) (z : IsPuzzle p) where
  shape : IsShape p.region
  shape = (has_shapes p z).region

  placed_at : (q : List ℕ) → IsPath p q → (c : ChoiceValue) → IsIn c (chosen_by p q) → IsPlaced p c
  placed_at q e c i = (cover_packs p z q e).placed c (among_from_in (chosen_by p q) c i)

  apart_in : (q : List ℕ) → IsPath p q → AreApart (chosen_by p q)
  apart_in q e v c d i j k l = (cover_packs p z q e).apart v c d (among_from_in (chosen_by p q) c i) (among_from_in (chosen_by p q) d j) k l

  some_cell_of : (q : List ℕ) → IsPath p q → (c : ChoiceValue) → IsIn c (chosen_by p q) → (v : Coordinates) × IsIn v c.cells
  some_cell_of q e c i = (first_cell c.cells, least_in p (has_shapes p z) c (placed_at q e c i))

  -- alike packings are laid on the images of one another by a symmetry that is kept
  pub alike_lays : (group : Group) (q r : List ℕ) → IsPath p q → IsPath p r → AreLikePaths p group q r
      → (n : ℕ) × IsKept group p.region p.maybe_cells n × LaysImages p.region n (chosen_by p q) (chosen_by p r)
  alike_lays group q r e f a =
      let m = matched group (packing_value p q) (packing_value p r) shape refl refl a in (
        m.0,
        m.1,
        lays_images group p.region p.maybe_cells m.0 shape m.1 (chosen_by p q) (chosen_by p r) (inside_of p z q e) (inside_of p z r f)
            (λ d j. (placed_at r f d j).rises) (apart_in q e) (apart_in r f) m.2 (some_cell_of q e) (some_cell_of r f),
      )

  pub may_choose : (q : List ℕ) → IsPath p q → (c : ChoiceValue) → IsIn c (chosen_by p q) → IsIn c (every_choice p)
  may_choose q e c i =
      let o = in_from_map (choice_at p) c (laying p q) i in
      let k = in_from_filter (λ (n : ℕ). nat_le n (laying_count p)) o.0 (in_order nat_cmp q) o.1 in
      let within = leb-true o.0 (laying_count p) k.1 in
      let some = (e.options o.0 (in_has q o.0 (in_from_order nat_cmp o.0 q k.0))).0 in
      subst (λ (d : ChoiceValue). IsIn d (every_choice p)) (sym o.2) (chosen_in p o.0 some within)

  -- ---- no two choices have the same cells

  module _ (own : have_own_cells p ≡ true) where
    -- each choice of the one packing has the cells of one of the other
    abbrev HasCells : List ℕ → List ℕ → Type 0
    HasCells q r = (c : ChoiceValue) → IsIn c (chosen_by p q) → (d : ChoiceValue) × IsIn d (chosen_by p r) × (c.cells ≡ d.cells)

    has_choice : (q r : List ℕ) → IsPath p q → IsPath p r → HasCells q r → (c : ChoiceValue) → is_among (chosen_by p q) c ≡ true → is_among (chosen_by p r) c ≡ true
    has_choice q r e f h c i =
        let j = in_from_among (chosen_by p q) c i in
        let d = h c j in
        let same = told_by_cells p own c d.0 (may_choose q e c j) (may_choose r f d.0 d.1) d.2 in
        subst (λ (b : ChoiceValue). is_among (chosen_by p r) b ≡ true) (sym same) (among_from_in (chosen_by p r) d.0 d.1)

    -- packings with the same sets of cells are the same
    one_packing_of : (q r : List ℕ) → IsPath p q → IsPath p r → HasCells q r → HasCells r q → AreSame q r
    one_packing_of q r e f h g =
        let same : is_among (chosen_by p q) ≡ is_among (chosen_by p r) =
        same_function (is_among (chosen_by p q)) (is_among (chosen_by p r))
        (λ c. same_tests (is_among (chosen_by p q) c) (is_among (chosen_by p r) c) (has_choice q r e f h c) (has_choice r q f e g c)) in
        one_cover p z (has q) (has r) (is_among (chosen_by p r))
        (subst (λ (chosen : ChoiceValue → Bool). SetStandsFor p (has q) chosen) same (cover_stands p z q e)) (cover_stands p z r f)

    module _ (group : Group) where
      neutral : IsKept group p.region p.maybe_cells 0
      neutral = neutral_kept group p.region p.maybe_cells shape

      neutral_image : (cells : List Coordinates) → IsStrictlySortedBy coordinates_cmp cells → ((v : Coordinates) → IsIn v cells → IsIn v p.region) → image_of p.region 0 cells ≡ cells
      neutral_image cells rises inside =
          same_members coordinates_total (image_of p.region 0 cells) cells (in_order_rises coordinates_total (map (image_in p.region 0) cells)) rises
          (λ w i.
          let v = from_image group p.region p.maybe_cells 0 shape neutral w cells i in
          subst (λ (u : Coordinates). IsIn u cells) (sym (v.2 ∙ neutral_stays p.region shape v.0 (inside v.0 v.1))) v.1)
          (λ w i. subst (λ (u : Coordinates). IsIn u (image_of p.region 0 cells)) (neutral_stays p.region shape w (inside w i)) (in_image group p.region p.maybe_cells 0 shape neutral w cells i))

      -- what is laid on the images of a packing by a symmetry that moves nothing is the packing
      pub same_by_none : (q r : List ℕ) → IsPath p q → IsPath p r → (n : ℕ) → IsKept group p.region p.maybe_cells n → carrier p.region n ≡ carrier p.region 0
          → LaysImages p.region n (chosen_by p q) (chosen_by p r) → AreSame q r
      same_by_none q r e f n k way lays =
          one_packing_of q r e f
          (λ c i. let d = lays.forth c i in (d.0, d.1, sym (d.2 ∙ stays_there c i)))
          (λ d j. let c = lays.back d j in (c.0, c.1, c.2 ∙ stays_there c.0 c.1))
        where
          stays_there : (c : ChoiceValue) → IsIn c (chosen_by p q) → image_of p.region n c.cells ≡ c.cells
          stays_there c i = one_image_of p z group n 0 c.cells (inside_of p z q e c i) k neutral way ∙ neutral_image c.cells (placed_at q e c i).rises (inside_of p z q e c i)

      -- ---- at an anchor

      module _ (t : Thing) (a : IsAnchor p t) (ns : List ℕ) (allowed : AreAllowed p group t ns) where
        -- a packing whose cells at the anchor are least, and have as many images as there are ways in which the group moves cells
        pub record IsFree (q : List ℕ) : Type 0 where
          pub path : IsPath p q
          pub least : is_least p.region ns (cells_at p t q) ≡ true
          pub many : length (images_by p.region ns (cells_at p t q)) ≡ carrier_count p group

        each : (n : ℕ) → IsIn n ns → IsKept group p.region p.maybe_cells n
        each n i = (allowed.each n i).kept

        inside : (q : List ℕ) → IsPath p q → (v : Coordinates) → IsIn v (cells_at p t q) → IsIn v p.region
        inside q e = cells_inside p z t a q e

        rises_at : (q : List ℕ) → IsPath p q → IsStrictlySortedBy coordinates_cmp (cells_at p t q)
        rises_at q e =
            let c = anchor_in p z t a (chosen_by p q) (cover_packs p z q e) in
            subst (λ (us : List Coordinates). IsStrictlySortedBy coordinates_cmp us) (sym (cells_are p z t a q e c.0 c.1 c.2)) (placed_at q e c.0 c.1).rises

        -- a symmetry that is kept carries the one packing onto the other, and one of the list moves the region's cells as it does
        record IsBrought (q r : List ℕ) : Type 0 where
          symmetry : ℕ
          kept : IsKept group p.region p.maybe_cells symmetry
          lays : LaysImages p.region symmetry (chosen_by p q) (chosen_by p r)
          listed : ℕ
          member : IsIn listed ns
          way : carrier p.region symmetry ≡ carrier p.region listed
          cells : cells_at p t r ≡ image_of p.region listed (cells_at p t q)

        brought : (q r : List ℕ) → IsFree q → IsPath p r → AreLikePaths p group q r → IsBrought q r
        brought q r free f like =
            let e = free.path in
            let lays = alike_lays group q r e f like in
            let n = lays.0 in
            let m = same_way p z group ns each (cells_at p t q) (inside q e) free.many n lays.1 in
            let ok = allowed.each m.0 m.1 in
            let s = moved_path p z group m.0 ok.kept ok.names ok.pieces q e in
            let images : (c : ChoiceValue) → IsIn c (chosen_by p q) → image_of p.region n c.cells ≡ image_of p.region m.0 c.cells =
            λ c i. one_image_of p z group n m.0 c.cells (inside_of p z q e c i) lays.1 ok.kept m.2 in
            let same = one_packing_of s.0 r s.1 f
            (λ d j. let c = s.2.back d j in let b = lays.2.forth c.0 c.1 in (b.0, b.1, c.2 ∙ sym (images c.0 c.1) ∙ sym b.2))
            (λ b j. let c = lays.2.back b j in let d = s.2.forth c.0 c.1 in (d.0, d.1, c.2 ∙ images c.0 c.1 ∙ sym d.2)) in
            record {
              symmetry = n;
              kept = lays.1;
              lays = lays.2;
              listed = m.0;
              member = m.1;
              way = m.2;
              cells = sym (cells_same p z t a s.0 r same) ∙ cells_moved p z t a group ns allowed m.0 m.1 q s.0 e s.1 s.2;
            }

        -- least cells aren't brought to lesser ones
        not_lowered : (q r : List ℕ) → IsFree q → IsBrought q r → is_lt (cells_cmp (cells_at p t r) (cells_at p t q)) ≡ false
        not_lowered q r free b =
            subst (λ (us : List Coordinates). is_lt (cells_cmp us (cells_at p t q)) ≡ false) (sym b.cells)
            (from_not _ (passes (λ k. not (is_lt (cells_cmp (image_of p.region k (cells_at p t q)) (cells_at p t q)))) ns free.least b.listed b.member))
          where
            from_not : (b : Bool) → not b ≡ true → b ≡ false
            from_not true h = cc
            from_not false h = refl

        neither_less : (xs ys : List Coordinates) → is_lt (cells_cmp xs ys) ≡ false → is_lt (cells_cmp ys xs) ≡ false → xs ≡ ys
        neither_less xs ys x y =
            elim (cases_order (cells_cmp xs ys)) [
              | inl l ↦ absurd (true≢false (sym (ap is_lt l) ∙ x))
              | inr r ↦ elim r [ inl e ↦ cells_exact xs ys e | inr g ↦ absurd (true≢false (sym (ap is_lt (turned_back cells_total xs ys g)) ∙ y)) ]
            ]

        -- alike packings of this kind are the same
        pub alike_same : (q r : List ℕ) → IsFree q → IsFree r → AreLikePaths p group q r → AreSame q r
        alike_same q r x y like =
            let b = brought q r x y.path like in
            let c = brought r q y x.path (like_back p z group q r like) in
            let same : cells_at p t q ≡ cells_at p t r = neither_less (cells_at p t q) (cells_at p t r) (not_lowered r q y c) (not_lowered q r x b) in
            let stays : image_of p.region b.listed (cells_at p t q) ≡ image_of p.region 0 (cells_at p t q) = sym b.cells ∙ sym same ∙ sym (neutral_image (cells_at p t q) (rises_at q x.path) (inside q x.path)) in
            let way = kept_by_none p z group ns each (cells_at p t q) (inside q x.path) x.many b.listed (each b.listed b.member) allowed.neutral stays in
            same_by_none q r x.path y.path b.symmetry b.kept (b.way ∙ way) b.lays
