-- In a packing there is room for the copies that follow one: they lie apart from it and from each other, and each has its least cell after
-- that of the one before.
use Rattle.std.proofs.Common.{◌≡◌, ℕ, suc, ◌*◌, ◌≤◌, ◌==◌, ◌⊎◌, List, [], ◌∷◌, ◌++◌, filter, length, Bool, true, false, not, inl, inr, refl, sym, ap, subst, ◌∙◌, arith, eqb-true, Less}
use Rattle.std.proofs.lemmas.Bool.{cases_Bool, cond-true, cond-false, not_from_false, le-leb}
use Rattle.std.proofs.lemmas.List.{length-append}
use Rattle.std.proofs.Math.Nat.{suc-mul}
use Rattle.poly_cells.specs.Coordinates.{Coordinates, coordinates_cmp}
use Rattle.poly_cells.specs.Sets.{IsIn}
use Rattle.poly_cells.proofs.CoordinateLemmas.{coordinates_total}
use Rattle.poly_cells.proofs.MemberLemmas.{in_from_flat_map}
use Rattle.poly_cells.proofs.SetLemmas.{in_append_cases, not_itself}
use Rattle.poly_texts.specs.Puzzle.{PuzzleValue, IsPuzzle, names_of, is_spare, pieces_of, equal_names}
use Rattle.poly_texts.proofs.NameLemmas.{pieces_new}
use Rattle.poly_texts.proofs.EqualLemmas.{equal_shapes}
use Rattle.poly_place.specs.Packings.{ChoiceValue, neighbours, pairs, first_cell, IsUsed, IsPacking, place_of, followers_in, followers, cells_beside, leaves_room, PackingsHaveRoom}
use Rattle.poly_place.proofs.DistinctLemmas.{IsDistinct, distinct_append, distinct_rising, distinct_names}
use Rattle.poly_place.proofs.PairLemmas.{in_group, among_groups, equal_single, equal_named}
use Rattle.poly_place.proofs.PlacedLemmas.{HasShapes, has_shapes}
use Rattle.poly_place.proofs.PlaceLemmas.{place_rises, past, past_long, in_past, first_in, first_least}
use Rattle.poly_place.proofs.SizeLemmas.{short, placed_size, one_piece}

product_of_none : (m : ℕ) → 0 ≡ 0 * m
product_of_none m = omega arith

module _ (p : PuzzleValue) (z : IsPuzzle p) (chosen : ChoiceValue → Bool) (k : IsPacking p chosen) where
  shapes : HasShapes p
  shapes = has_shapes p z

  -- how many of those that follow have to be used
  abbrev many : List (ℕ × ℕ) → ℕ → ℕ
  many ps n = length (filter (λ m. not (is_spare p m)) (followers_in ps n))

  -- the pairs are some of the puzzle's
  abbrev ArePairs : List (ℕ × ℕ) → Type 0
  ArePairs ps = (pair : ℕ × ℕ) → IsIn pair ps → IsIn pair (pairs p)

  -- the second of two equal pieces is used where it isn't spare
  second_used : (pair : ℕ × ℕ) → IsIn pair (pairs p) → is_spare p (pair.1) ≡ false → IsUsed chosen (pair.1)
  second_used pair i s =
      let n = (among_groups (pair.0) (pair.1) (equal_names p) i).1 in
      k.used (pair.1) (equal_named p z (pair.1) n) (equal_single p z (pair.1) n).0 s

  followed : (pair : ℕ × ℕ) (ps : List (ℕ × ℕ)) (n : ℕ) → (pair.0 == n) ≡ true → followers_in (pair ∷ ps) n ≡ pair.1 ∷ followers_in ps (pair.1)
  followed pair ps n t = cond-true (pair.0 == n) (pair.1 ∷ followers_in ps (pair.1)) (followers_in ps n) t

  passed : (pair : ℕ × ℕ) (ps : List (ℕ × ℕ)) (n : ℕ) → (pair.0 == n) ≡ false → followers_in (pair ∷ ps) n ≡ followers_in ps n
  passed pair ps n f = cond-false (pair.0 == n) (pair.1 ∷ followers_in ps (pair.1)) (followers_in ps n) f

  more_sure : (n : ℕ) (ns : List ℕ) → is_spare p n ≡ false → length (filter (λ m. not (is_spare p m)) (n ∷ ns)) ≡ suc (length (filter (λ m. not (is_spare p m)) ns))
  more_sure n ns s = ap length (cond-true (not (is_spare p n)) (n ∷ filter (λ m. not (is_spare p m)) ns) (filter (λ m. not (is_spare p m)) ns) (not_from_false _ s))

  same_sure : (n : ℕ) (ns : List ℕ) → is_spare p n ≡ true → length (filter (λ m. not (is_spare p m)) (n ∷ ns)) ≡ length (filter (λ m. not (is_spare p m)) ns)
  same_sure n ns s = ap length (cond-false (not (is_spare p n)) (n ∷ filter (λ m. not (is_spare p m)) ns) (filter (λ m. not (is_spare p m)) ns) (ap not s))

  -- a piece is used, or none that has to be used follows it
  used_or_last : (ps : List (ℕ × ℕ)) (n : ℕ) → ArePairs ps → IsUsed chosen n ⊎ (many ps n ≡ 0)
  used_or_last [] n h = inr refl
  used_or_last (pair ∷ ps) n h =
      elim (cases_Bool (pair.0 == n)) [
        | inl t ↦
            let to_first : IsUsed chosen (pair.1) → IsUsed chosen n = λ u. subst (IsUsed chosen) (eqb-true (pair.0) n t) (k.in_turn (pair.0) (pair.1) (h pair (inl refl)) u) in
            elim (cases_Bool (is_spare p (pair.1))) [
              | inl s ↦ elim (used_or_last ps (pair.1) (λ q i. h q (inr i))) [
                | inl u ↦ inl (to_first u)
                | inr none ↦ inr (ap (λ (ns : List ℕ). length (filter (λ m. not (is_spare p m)) ns)) (followed pair ps n t) ∙ same_sure (pair.1) (followers_in ps (pair.1)) s ∙ none)
              ]
              | inr s ↦ inl (to_first (second_used pair (h pair (inl refl)) s))
            ]
        | inr f ↦ elim (used_or_last ps n (λ q i. h q (inr i))) [
          | inl u ↦ inl u
          | inr none ↦ inr (ap (λ (ns : List ℕ). length (filter (λ m. not (is_spare p m)) ns)) (passed pair ps n f) ∙ none)
        ]
      ]

  -- equal pieces take as many cells
  same_size : (c d : ChoiceValue) → chosen c ≡ true → chosen d ≡ true → IsIn (c.name, d.name) (pairs p) → length d.cells ≡ length c.cells
  same_size c d a b i =
      let pc = k.placed c a in
      let pd = k.placed d b in
      let group = in_from_flat_map neighbours (c.name, d.name) (equal_names p) i in
      let both = in_group c.name d.name group.0 group.2 in
      let one = equal_shapes p z group.0 c.name d.name group.1 both.0 both.1 in
      let same = one_piece (pieces_of p) (distinct_names (names_of (pieces_of p)) (pieces_new p z)) (d.name, pd.piece) (d.name, pc.piece) pd.named ((one.0 pc.piece).0 pc.named) refl in
      placed_size p shapes d pd ∙ ap (λ (q : ℕ × List Coordinates). length (q.1)) same ∙ sym (placed_size p shapes c pc)

  -- cells of chosen pieces whose least cells come after that of a choice: as many as n pieces of its size have
  record HasLater (c : ChoiceValue) (n : ℕ) : Type 0 where
    cells : List Coordinates
    distinct : IsDistinct cells
    long : length cells ≡ n * length c.cells
    later : (v : Coordinates) → IsIn v cells → (d : ChoiceValue) × (chosen d ≡ true) × IsIn v d.cells × (coordinates_cmp (first_cell c.cells) (first_cell d.cells) ≡ Less)

  none_later : (c : ChoiceValue) → HasLater c 0
  none_later c = record { cells = []; distinct = tt; long = product_of_none (length c.cells); later = λ v i. absurd i }

  -- they lie apart from the choice
  apart_from : (d : ChoiceValue) (n : ℕ) → chosen d ≡ true → (rest : HasLater d n) → IsDistinct (d.cells ++ rest.cells)
  apart_from d n b rest =
      distinct_append d.cells rest.cells (distinct_rising coordinates_total d.cells (k.placed d b).rises) rest.distinct (λ v i j.
      let e = rest.later v j in
      let same = k.apart v d e.0 b e.1 i e.2 in
      not_itself coordinates_total (first_cell d.cells) (subst (λ (x : ChoiceValue). coordinates_cmp (first_cell d.cells) (first_cell x.cells) ≡ Less) (sym same) e.3))

  module _ (c d : ChoiceValue) (n : ℕ) (b : chosen d ≡ true) (size : length d.cells ≡ length c.cells) (less : coordinates_cmp (first_cell c.cells) (first_cell d.cells) ≡ Less) (rest : HasLater d n) where
    after_both : (v : Coordinates) → IsIn v rest.cells → (e : ChoiceValue) × (chosen e ≡ true) × IsIn v e.cells × (coordinates_cmp (first_cell c.cells) (first_cell e.cells) ≡ Less)
    after_both v i =
        let e = rest.later v i in
        (e.0, e.1, e.2, coordinates_total.trans (first_cell c.cells) (first_cell d.cells) (first_cell e.0.cells) less e.3)

    with_second : HasLater c (suc n)
    with_second =
        record {
          cells = d.cells ++ rest.cells;
          distinct = apart_from d n b rest;
          long =
              let joined = length-append d.cells rest.cells in
              let sized = rest.long ∙ ap (λ (m : ℕ). n * m) size in
              let product = suc-mul n (length c.cells) in
              omega (arith, joined, sized, product, size);
          later = λ v i. elim (in_append_cases v d.cells rest.cells i) [ inl l ↦ (d, b, l, less) | inr r ↦ after_both v r ];
        }

    without_second : HasLater c n
    without_second = record { cells = rest.cells; distinct = rest.distinct; long = rest.long ∙ ap (λ (m : ℕ). n * m) size; later = after_both }

  -- the second of two equal pieces is used, and others follow it
  with_used : (pair : ℕ × ℕ) (ps : List (ℕ × ℕ)) (c : ChoiceValue) → chosen c ≡ true → IsIn pair (pairs p) → (pair.0 == c.name) ≡ true → ((d : ChoiceValue) → chosen d ≡ true → HasLater d (many ps d.name))
      → IsUsed chosen (pair.1) → HasLater c (suc (many ps (pair.1))) × HasLater c (many ps (pair.1))
  with_used pair ps c a i t later u =
      let d = u.0 in
      let here : IsIn (c.name, d.name) (pairs p) = subst (λ (m : ℕ). IsIn (m, d.name) (pairs p)) (eqb-true (pair.0) c.name t) (subst (λ (m : ℕ). IsIn (pair.0, m) (pairs p)) (sym u.2) i) in
      let size = same_size c d a u.1 here in
      let less = k.ordered c d a u.1 here in
      let rest = subst (λ (m : ℕ). HasLater d (many ps m)) u.2 (later d u.1) in
      (with_second c d (many ps (pair.1)) u.1 size less rest, without_second c d (many ps (pair.1)) u.1 size less rest)

  with_pair : (pair : ℕ × ℕ) (ps : List (ℕ × ℕ)) (c : ChoiceValue) → chosen c ≡ true → IsIn pair (pairs p) → ArePairs ps → (pair.0 == c.name) ≡ true → ((d : ChoiceValue) → chosen d ≡ true → HasLater d (many ps d.name))
      → HasLater c (length (filter (λ m. not (is_spare p m)) (pair.1 ∷ followers_in ps (pair.1))))
  with_pair pair ps c a i h t later =
      elim (cases_Bool (is_spare p (pair.1))) [
        | inr s ↦ subst (HasLater c) (sym (more_sure (pair.1) (followers_in ps (pair.1)) s)) (with_used pair ps c a i t later (second_used pair i s)).0
        | inl s ↦ subst (HasLater c) (sym (same_sure (pair.1) (followers_in ps (pair.1)) s)) (elim (used_or_last ps (pair.1) h) [
          | inl u ↦ (with_used pair ps c a i t later u).1
          | inr none ↦ subst (HasLater c) (sym none) (none_later c)
        ])
      ]

  -- the cells of the copies that follow
  later_cells : (ps : List (ℕ × ℕ)) (c : ChoiceValue) → chosen c ≡ true → ArePairs ps → HasLater c (many ps c.name)
  later_cells [] c a h = none_later c
  later_cells (pair ∷ ps) c a h =
      elim (cases_Bool (pair.0 == c.name)) [
        | inr f ↦ subst (HasLater c) (ap (λ (ns : List ℕ). length (filter (λ m. not (is_spare p m)) ns)) (sym (passed pair ps c.name f))) (later_cells ps c a (λ q i. h q (inr i)))
        | inl t ↦ subst (HasLater c) (ap (λ (ns : List ℕ). length (filter (λ m. not (is_spare p m)) ns)) (sym (followed pair ps c.name t)))
            (with_pair pair ps c a (h pair (inl refl)) (λ q i. h q (inr i)) t (λ d b. later_cells ps d b (λ q i. h q (inr i))))
      ]

  -- a cell of a choice whose least cell doesn't come before that of another one is at its place or later
  module _ (c : ChoiceValue) (a : chosen c ≡ true) where
    start : ℕ
    start = place_of p.region (first_cell c.cells)

    inside : (d : ChoiceValue) → chosen d ≡ true → (v : Coordinates) → IsIn v d.cells → IsIn v p.region
    inside d b v i = (k.placed d b).placed.inside v i

    some_cell : (d : ChoiceValue) (v : Coordinates) → IsIn v d.cells → IsIn (first_cell d.cells) d.cells
    some_cell d v i = by_cells d.cells i
      where
        by_cells : (vs : List Coordinates) → IsIn v vs → IsIn (first_cell vs) vs
        by_cells [] j = absurd j
        by_cells (w ∷ ws) j = inl refl

    at_or_after : (d : ChoiceValue) → chosen d ≡ true → (v : Coordinates) → IsIn v d.cells → start ≤ place_of p.region (first_cell d.cells) → start ≤ place_of p.region v
    unfolding start
    at_or_after d b v i le =
        elim (first_least d.cells v (k.placed d b).rises i) [
          | inl e ↦ let same = ap (place_of p.region) e in omega (arith, same, le)
          | inr less ↦
              let rise = place_rises p.region (first_cell d.cells) v shapes.region.rises (inside d b (first_cell d.cells) (some_cell d v i)) (inside d b v i) less in
              omega (arith, rise, le)
        ]

    later_start : (d : ChoiceValue) (b : chosen d ≡ true) (v w : Coordinates) → IsIn v d.cells → IsIn w c.cells → coordinates_cmp (first_cell c.cells) (first_cell d.cells) ≡ Less → start ≤ place_of p.region (first_cell d.cells)
    unfolding start
    later_start d b v w i j less =
        let rise = place_rises p.region (first_cell c.cells) (first_cell d.cells) shapes.region.rises (inside c a (first_cell c.cells) (some_cell c w j)) (inside d b (first_cell d.cells) (some_cell d v i)) less in
        omega (arith, rise)

  room_left : (c : ChoiceValue) → chosen c ≡ true → leaves_room p c ≡ true
  unfolding start
  room_left c a =
      let rest = later_cells (pairs p) c a (λ q i. i) in
      let n = length (followers p c.name) in
      let at = place_of p.region (first_cell c.cells) in
      let each : (v : Coordinates) → IsIn v (c.cells ++ rest.cells) → IsIn v (past at p.region) = λ v i.
      elim (in_append_cases v c.cells rest.cells i) [
        | inl l ↦ in_past at p.region v (inside c a c a v l) (at_or_after c a c a v l (omega arith))
        | inr r ↦
            let d = rest.later v r in
            in_past at p.region v (inside c a d.0 d.1 v d.2) (at_or_after c a d.0 d.1 v d.2 (later_start c a d.0 d.1 v (first_cell c.cells) d.2 (least c a) d.3))
      ] in
      let fit = short (c.cells ++ rest.cells) (past at p.region) (apart_from c n a rest) each in
      let joined = length-append c.cells rest.cells in
      let long = rest.long in
      let whole = past_long at p.region in
      le-leb (n * length c.cells) (cells_beside p c.cells) (omega (arith, fit, joined, long, whole))
    where
      least : (c : ChoiceValue) → chosen c ≡ true → IsIn (first_cell c.cells) c.cells
      least c a = first_in c.cells (let size = placed_size p shapes c (k.placed c a) in let some = (shapes.pieces (c.name, (k.placed c a).piece) (k.placed c a).named).some in omega (arith, size, some))

pub packings_have_room : PackingsHaveRoom
packings_have_room p chosen c z k a = room_left p z chosen k c a
