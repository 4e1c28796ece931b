-- The packing that is made of one by putting its equal pieces in order.
use Rattle.std.proofs.Common.{◌≡◌, ℕ, ◌<◌, ◌≤◌, nat_lt, List, [], map, length, get_or, Bool, true, false, cond, ◌&&◌, ◌⊎◌, inl, inr, refl, sym, ap, ap₂, subst, ◌∙◌, Less, arith, is_eq}
use Rattle.std.specs.Cmp.{Equal-is}
use Rattle.std.specs.List.Sorted.{IsStrictlySortedBy}
use Rattle.std.proofs.lemmas.Bool.{cases_Bool, cond-true, cond-false, ltb-true, lt-ltb, and_parts, and_from}
use Rattle.std.proofs.lemmas.List.{length-map}
use Rattle.std.proofs.lemmas.Cmp.{tied_itself}
use Rattle.poly_cells.specs.Coordinates.{Coordinates, coordinates_cmp}
use Rattle.poly_cells.specs.Sets.{IsIn, in_order}
use Rattle.poly_cells.proofs.SetLemmas.{in_map, in_from_map, in_at, in_from_order, in_to_order, in_order_rises, not_itself}
use Rattle.poly_cells.proofs.MemberLemmas.{in_from_flat_map, in_from_filter, in_filter, passes}
use Rattle.poly_texts.specs.Puzzle.{PuzzleValue, IsPuzzle, names_of, is_needed, is_spare, pieces_of, equal_names, come_last}
use Rattle.poly_texts.proofs.EqualLemmas.{spare_last}
use Rattle.poly_place.specs.Placements.{cells_cmp}
use Rattle.poly_place.specs.Packings.{ChoiceValue, choice_with, is_any, neighbours, pairs, IsUsed, first_cell, IsPlaced, IsPacking}
use Rattle.poly_place.specs.Swaps.{IsApart, AreEqual, IsSwap}
use Rattle.poly_place.proofs.OrderLemmas.{cells_total, cells_exact}
use Rattle.poly_place.proofs.DistinctLemmas.{distinct_filter, distinct_rising, at_of_in, distinct_at}
use Rattle.poly_place.proofs.PairLemmas.{in_group}
use Rattle.poly_place.proofs.StandLemmas.{least_in}
use Rattle.poly_place.proofs.LeavingsLemmas.{uses, from_used}
use Rattle.poly_place.proofs.CountLemmas.{filter_short}
use Rattle.poly_place.proofs.PlacedLemmas.{has_shapes}
use Rattle.poly_place.proofs.SortLemmas.{length_in_order, distinct_images, rising_at, place_in, at_place_in, place_at, place_next, less_by_first}
use Rattle.poly_place.proofs.EqualLemmas.{group_of, group_is, is_grouped, grouped_in, in_grouped}
use Rattle.poly_place.proofs.LaidLemmas.{enough, distinct_all, distinct_in, one_group, equal_known, moved_to, pick, pick_is, among, laid, laid_apart_by, used_in, is_used, cells_in}

module _ (p : PuzzleValue) (z : IsPuzzle p) where
  module _ (chosen : ChoiceValue → Bool) (k : IsApart p chosen) where
    -- ---- in order

    abbrev sorted : List ℕ → List (List Coordinates)
    sorted g = in_order cells_cmp (map (cells_in p z chosen k) (used_in p z chosen k g))

    sorted_rises : (g : List ℕ) → IsStrictlySortedBy cells_cmp (sorted g)
    sorted_rises g = in_order_rises cells_total (map (cells_in p z chosen k) (used_in p z chosen k g))

    sorted_long : (g : List ℕ) → IsIn g (equal_names p) → length (sorted g) ≡ length (used_in p z chosen k g)
    unfolding cells_in used_in
    sorted_long g i =
        length_in_order cells_cmp cells_exact (map (cells_in p z chosen k) (used_in p z chosen k g))
        (distinct_images (cells_in p z chosen k) (used_in p z chosen k g) (λ a b x y e. laid_apart_by p z chosen k a b (is_used p z chosen k g a x) (is_used p z chosen k g b y) e) (distinct_filter (uses p chosen) g (distinct_in p z g i)))
        ∙ length-map (used_in p z chosen k g) (cells_in p z chosen k)

    sorted_short : (g : List ℕ) → IsIn g (equal_names p) → length (sorted g) ≤ length g
    unfolding used_in
    sorted_short g i = let long = sorted_long g i in let short = filter_short (uses p chosen) g in omega (arith, long, short)

    put : ℕ → List Coordinates
    put n = get_or (sorted (group_of (equal_names p) n)) (place_in (group_of (equal_names p) n) n) []

    put_is : (g : List ℕ) (n : ℕ) → IsIn g (equal_names p) → IsIn n g → put n ≡ get_or (sorted g) (place_in g n) []
    unfolding put
    put_is g n i j = ap (λ (h : List ℕ). get_or (sorted h) (place_in h n) []) (group_is (equal_names p) g n (distinct_all p z) i j)

    -- there is something to put the piece on
    has_put : ℕ → Bool
    has_put n = nat_lt (place_in (group_of (equal_names p) n) n) (length (sorted (group_of (equal_names p) n)))

    put_within : (g : List ℕ) (n : ℕ) → IsIn g (equal_names p) → IsIn n g → has_put n ≡ true → place_in g n < length (sorted g)
    unfolding has_put
    put_within g n i j t =
        ltb-true (place_in g n) (length (sorted g)) (sym (ap (λ (h : List ℕ). nat_lt (place_in h n) (length (sorted h))) (group_is (equal_names p) g n (distinct_all p z) i j)) ∙ t)

    within_put : (g : List ℕ) (n : ℕ) → IsIn g (equal_names p) → IsIn n g → place_in g n < length (sorted g) → has_put n ≡ true
    unfolding has_put
    within_put g n i j lt = ap (λ (h : List ℕ). nat_lt (place_in h n) (length (sorted h))) (group_is (equal_names p) g n (distinct_all p z) i j) ∙ lt-ltb (place_in g n) (length (sorted g)) lt

    -- each equal piece is put where one of its group lies
    put_from : (g : List ℕ) (n : ℕ) → IsIn g (equal_names p) → IsIn n g → has_put n ≡ true → (m : ℕ) × IsIn m g × (uses p chosen m ≡ true) × (put n ≡ (pick p z chosen m).cells)
    unfolding cells_in used_in
    put_from g n i j t =
        let here = in_at (sorted g) (place_in g n) [] (put_within g n i j t) in
        let from = in_from_map (cells_in p z chosen k) (get_or (sorted g) (place_in g n) []) (used_in p z chosen k g) (in_from_order cells_cmp (get_or (sorted g) (place_in g n) []) (map (cells_in p z chosen k) (used_in p z chosen k g)) here) in
        let kept = in_from_filter (uses p chosen) from.0 g from.1 in
        (from.0, kept.0, kept.1, put_is g n i j ∙ from.2)

    -- and where one lies another is put
    put_to : (g : List ℕ) (m : ℕ) → IsIn g (equal_names p) → IsIn m g → uses p chosen m ≡ true → (n : ℕ) × IsIn n g × (has_put n ≡ true) × (put n ≡ (pick p z chosen m).cells)
    unfolding cells_in used_in
    put_to g m i j t =
        let at = at_of_in [] (cells_in p z chosen k m) (sorted g) (in_to_order cells_exact (cells_in p z chosen k m) (map (cells_in p z chosen k) (used_in p z chosen k g)) (in_map (cells_in p z chosen k) m (used_in p z chosen k g) (in_filter (uses p chosen) m g j t))) in
        let short = sorted_short g i in
        let within : at.0 < length g = let lt = at.1 in omega (arith, lt, short) in
        let n = get_or g at.0 0 in
        let here = in_at g at.0 0 within in
        let place = place_at g at.0 (distinct_in p z g i) within in
        let fits : place_in g n < length (sorted g) = let lt = at.1 in omega (arith, lt, place) in
        (n, here, within_put g n i here fits, put_is g n i here ∙ ap (λ (q : ℕ). get_or (sorted g) q []) place ∙ at.2)

    put_tells : (g : List ℕ) (m n : ℕ) → IsIn g (equal_names p) → IsIn m g → IsIn n g → has_put m ≡ true → has_put n ≡ true → put m ≡ put n → m ≡ n
    put_tells g m n i a b s t e =
        let places = distinct_at [] (sorted g) (place_in g m) (place_in g n) (distinct_rising cells_total (sorted g) (sorted_rises g)) (put_within g m i a s) (put_within g n i b t)
        (sym (put_is g m i a) ∙ e ∙ put_is g n i b) in
        sym (at_place_in g m (distinct_in p z g i) a) ∙ ap (λ (q : ℕ). get_or g q 0) places ∙ at_place_in g n (distinct_in p z g i) b

    put_rises : (g : List ℕ) (m n : ℕ) → IsIn g (equal_names p) → IsIn (m, n) (neighbours g) → has_put n ≡ true → cells_cmp (put m) (put n) ≡ Less
    put_rises g m n i pair t =
        let both = in_group m n g pair in
        let next = place_next g m n (distinct_in p z g i) pair in
        let less = rising_at cells_cmp [] (sorted g) (place_in g m) (place_in g n) (sorted_rises g) (omega (arith, next)) (put_within g n i both.1 t) in
        ap₂ cells_cmp (put_is g m i both.0) (put_is g n i both.1) ∙ less

    -- there is something for the piece before as well
    put_before : (g : List ℕ) (m n : ℕ) → IsIn g (equal_names p) → IsIn (m, n) (neighbours g) → has_put n ≡ true → has_put m ≡ true
    put_before g m n i pair t =
        let both = in_group m n g pair in
        let next = place_next g m n (distinct_in p z g i) pair in
        let lt = put_within g n i both.1 t in
        within_put g m i both.0 (omega (arith, next, lt))

    -- there is something for each piece that is no spare copy
    put_sure : (g : List ℕ) (n : ℕ) → IsIn g (equal_names p) → IsIn n g → is_spare p n ≡ false → has_put n ≡ true
    unfolding used_in
    put_sure g n i j sure =
        let many = enough (is_spare p) (uses p chosen) g n (passes (come_last (is_spare p)) (equal_names p) (spare_last p z) g i)
        (λ m a f. let known = equal_known p z g m i a in from_used p chosen (among p z chosen k) m (k.used m known.0 known.1 f)) j sure in
        let long = sorted_long g i in
        within_put g n i j (omega (arith, many, long))

    -- ---- the packing with equal pieces in order

    pub swapped : ChoiceValue → Bool
    swapped c = cond (is_grouped p c.name) (has_put c.name && is_eq (cells_cmp c.cells (put c.name))) (chosen c)

    -- what it says of a choice
    swapped_parts : (c : ChoiceValue) → is_grouped p c.name ≡ true → swapped c ≡ true → (has_put c.name ≡ true) × (is_eq (cells_cmp c.cells (put c.name)) ≡ true)
    unfolding swapped
    swapped_parts c g h =
        and_parts (has_put c.name) (is_eq (cells_cmp c.cells (put c.name)))
        (sym (cond-true (is_grouped p c.name) (has_put c.name && is_eq (cells_cmp c.cells (put c.name))) (chosen c) g) ∙ h)

    swapped_put : (c : ChoiceValue) → is_grouped p c.name ≡ true → swapped c ≡ true → c.cells ≡ put c.name
    swapped_put c g h = cells_exact c.cells (put c.name) ((Equal-is (cells_cmp c.cells (put c.name))).0 (swapped_parts c g h).1)

    put_swapped : (n : ℕ) (cells : List Coordinates) → is_grouped p n ≡ true → has_put n ≡ true → cells ≡ put n → swapped (choice_with n cells) ≡ true
    unfolding swapped
    put_swapped n cells g t e =
        cond-true (is_grouped p n) (has_put n && is_eq (cells_cmp cells (put n))) (chosen (choice_with n cells)) g
        ∙ and_from (has_put n) (is_eq (cells_cmp cells (put n))) t (ap (λ (q : List Coordinates). is_eq (cells_cmp cells q)) (sym e) ∙ ap is_eq (tied_itself cells_total cells))

    swapped_kept : (c : ChoiceValue) → is_grouped p c.name ≡ false → swapped c ≡ chosen c
    unfolding swapped
    swapped_kept c g = cond-false (is_grouped p c.name) (has_put c.name && is_eq (cells_cmp c.cells (put c.name))) (chosen c) g

    -- where a choice comes from: the same cells, laid by the same piece or one of its group
    record Origin (c : ChoiceValue) : Type 0 where
      from : ChoiceValue
      taken : chosen from ≡ true
      same : from.cells ≡ c.cells
      equal : (is_grouped p c.name ≡ false) × (c ≡ from) ⊎ ((g : List ℕ) × IsIn g (equal_names p) × IsIn c.name g × IsIn from.name g)

    origin : (c : ChoiceValue) → swapped c ≡ true → Origin c
    origin c h =
        elim (cases_Bool (is_grouped p c.name)) [
          | inl g ↦
              let there = grouped_in p c.name g in
              let m = put_from there.group c.name there.there there.member (swapped_parts c g h).0 in
              let at = laid p z chosen k m.0 m.2 in
              record {
                from = pick p z chosen m.0;
                taken = at.0;
                same = sym (swapped_put c g h ∙ m.3);
                equal = inr (there.group, there.there, there.member, subst (λ (q : ℕ). IsIn q there.group) (sym at.1) m.1);
              }
          | inr f ↦ record { from = c; taken = sym (swapped_kept c f) ∙ h; same = refl; equal = inl (f, refl) }
        ]

    -- and where it goes
    goal_of : (c : ChoiceValue) → chosen c ≡ true → (d : ChoiceValue) × (swapped d ≡ true) × (d.cells ≡ c.cells) × AreEqual p c.name d.name
    goal_of c h =
        elim (cases_Bool (is_grouped p c.name)) [
          | inl g ↦
              let there = grouped_in p c.name g in
              let n = put_to there.group c.name there.there there.member (from_used p chosen (among p z chosen k) c.name (c, h, refl)) in
              let is = pick_is p z chosen k c h (equal_known p z there.group c.name there.there there.member).2 in
              let cells : put n.0 ≡ c.cells = n.3 ∙ ap (λ (q : ChoiceValue). q.cells) is in
              (choice_with n.0 c.cells, put_swapped n.0 c.cells (in_grouped p n.0 there.group there.there n.1) n.2 (sym cells), refl, inr (there.group, there.there, there.member, n.1))
          | inr f ↦ (c, swapped_kept c f ∙ h, refl, inl refl)
        ]

    pub swap : IsSwap p chosen swapped
    swap = record {
      forth = goal_of;
      back = λ d h.
          let o = origin d h in (
            o.from,
            o.taken,
            o.same,
            elim o.equal [
              | inl q ↦ inl (ap (λ (c : ChoiceValue). c.name) q.1)
              | inr q ↦ inr q
            ],
          );
    }

    swapped_placed : (c : ChoiceValue) → swapped c ≡ true → IsPlaced p c
    swapped_placed c h =
        let o = origin c h in
        let there = k.placed o.from o.taken in
        elim o.equal [
          | inl q ↦ subst (IsPlaced p) (sym q.1) there
          | inr q ↦ moved_to p z q.0 o.from.name c.name c.cells q.1 q.3 q.2 (subst (λ (vs : List Coordinates). IsPlaced p (choice_with o.from.name vs)) o.same there)
        ]

    swapped_once : (c d : ChoiceValue) → swapped c ≡ true → swapped d ≡ true → is_any p c.name ≡ false → c.name ≡ d.name → c ≡ d
    swapped_once c d h g single e =
        elim (cases_Bool (is_grouped p c.name)) [
          | inl q ↦ ap₂ choice_with e (swapped_put c q h ∙ ap put e ∙ sym (swapped_put d (subst (λ (n : ℕ). is_grouped p n ≡ true) e q) g))
          | inr q ↦ k.once c d (sym (swapped_kept c q) ∙ h) (sym (swapped_kept d (subst (λ (n : ℕ). is_grouped p n ≡ false) e q)) ∙ g) single e
        ]

    swapped_used : (name : ℕ) → IsIn name (names_of (pieces_of p)) → is_needed p name ≡ true → is_spare p name ≡ false → IsUsed swapped name
    swapped_used name i n sure =
        elim (cases_Bool (is_grouped p name)) [
          | inl g ↦
              let there = grouped_in p name g in
              (choice_with name (put name), put_swapped name (put name) g (put_sure there.group name there.there there.member sure) refl, refl)
          | inr f ↦ let c = k.used name i n sure in (c.0, swapped_kept c.0 (subst (λ (m : ℕ). is_grouped p m ≡ false) (sym c.2) f) ∙ c.1, c.2)
        ]

    swapped_in_turn : (m n : ℕ) → IsIn (m, n) (pairs p) → IsUsed swapped n → IsUsed swapped m
    swapped_in_turn m n i u =
        let pair = in_from_flat_map neighbours (m, n) (equal_names p) i in
        let both = in_group m n pair.0 pair.2 in
        let grouped = in_grouped p n pair.0 pair.1 both.1 in
        let has = subst (λ (a : ℕ). has_put a ≡ true) u.2 (swapped_parts u.0 (subst (λ (a : ℕ). is_grouped p a ≡ true) (sym u.2) grouped) u.1).0 in
        (choice_with m (put m), put_swapped m (put m) (in_grouped p m pair.0 pair.1 both.0) (put_before pair.0 m n pair.1 pair.2 has) refl, refl)

    -- two that meet come from one; so they are one
    swapped_apart : (v : Coordinates) (c d : ChoiceValue) → swapped c ≡ true → swapped d ≡ true → IsIn v c.cells → IsIn v d.cells → c ≡ d
    swapped_apart v c d h g i j =
        let o = origin c h in
        let q = origin d g in
        let one = k.apart v o.from q.from o.taken q.taken (subst (λ (vs : List Coordinates). IsIn v vs) (sym o.same) i) (subst (λ (vs : List Coordinates). IsIn v vs) (sym q.same) j) in
        let names : o.from.name ≡ q.from.name = ap (λ (b : ChoiceValue). b.name) one in
        let cells : c.cells ≡ d.cells = sym o.same ∙ ap (λ (b : ChoiceValue). b.cells) one ∙ q.same in
        elim o.equal [
          | inl a ↦ elim q.equal [
            | inl b ↦ a.1 ∙ one ∙ sym b.1
            | inr b ↦
                let here : is_grouped p c.name ≡ true = in_grouped p c.name b.0 b.1 (subst (λ (n : ℕ). IsIn n b.0) (sym (ap (λ (x : ChoiceValue). x.name) a.1 ∙ names)) b.3) in
                let none = a.0 in
                cc
          ]
          | inr a ↦ elim q.equal [
            | inl b ↦
                let here : is_grouped p d.name ≡ true = in_grouped p d.name a.0 a.1 (subst (λ (n : ℕ). IsIn n a.0) (names ∙ sym (ap (λ (x : ChoiceValue). x.name) b.1)) a.3) in
                let none = b.0 in
                cc
            | inr b ↦
                let group = one_group p z a.0 b.0 q.from.name a.1 b.1 (subst (λ (n : ℕ). IsIn n a.0) names a.3) b.3 in
                let there = subst (λ (s : List ℕ). IsIn d.name s) (sym group) b.2 in
                let one_has = (swapped_parts c (in_grouped p c.name a.0 a.1 a.2) h).0 in
                let other_has = (swapped_parts d (in_grouped p d.name b.0 b.1 b.2) g).0 in
                let puts = sym (swapped_put c (in_grouped p c.name a.0 a.1 a.2) h) ∙ cells ∙ swapped_put d (in_grouped p d.name b.0 b.1 b.2) g in
                ap₂ choice_with (put_tells a.0 c.name d.name a.1 a.2 there one_has other_has puts) cells
          ]
        ]

    swapped_ordered : (c d : ChoiceValue) → swapped c ≡ true → swapped d ≡ true → IsIn (c.name, d.name) (pairs p) → coordinates_cmp (first_cell c.cells) (first_cell d.cells) ≡ Less
    swapped_ordered c d h g i =
        let pair = in_from_flat_map neighbours (c.name, d.name) (equal_names p) i in
        let both = in_group c.name d.name pair.0 pair.2 in
        let one = swapped_put c (in_grouped p c.name pair.0 pair.1 both.0) h in
        let other = swapped_put d (in_grouped p d.name pair.0 pair.1 both.1) g in
        let has = (swapped_parts d (in_grouped p d.name pair.0 pair.1 both.1) g).0 in
        let less = ap₂ cells_cmp one other ∙ put_rises pair.0 c.name d.name pair.1 pair.2 has in
        let v = least_in p (has_shapes p z) c (swapped_placed c h) in
        let w = least_in p (has_shapes p z) d (swapped_placed d g) in
        less_by_first c.cells d.cells v w
        (λ e.
        let same = swapped_apart (first_cell c.cells) c d h g v (subst (λ (u : Coordinates). IsIn u d.cells) (sym e) w) in
        not_itself cells_total c.cells (subst (λ (vs : List Coordinates). cells_cmp c.cells vs ≡ Less) (sym (ap (λ (b : ChoiceValue). b.cells) same)) less))
        less

    pub swapped_packs : IsPacking p swapped
    swapped_packs = record {
      placed = swapped_placed;
      once = swapped_once;
      used = swapped_used;
      filled = λ v m.
          let c = k.filled v m in
          let d = goal_of c.0 c.1 in
          (d.0, d.1, subst (λ (vs : List Coordinates). IsIn v vs) (sym d.2) c.2);
      apart = swapped_apart;
      ordered = swapped_ordered;
      in_turn = swapped_in_turn;
    }
