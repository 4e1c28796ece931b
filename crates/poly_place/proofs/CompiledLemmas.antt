-- Where it is within the limits, the problem that stands for a puzzle is one.
use Rattle.std.proofs.Common.{◌||◌, ap, ◌≡◌, ℕ, zero, suc, ◌+◌, ◌-◌, ◌<◌, ◌≤◌, ◌^◌, ◌/◌, ◌%◌, List, [], ◌∷◌, ◌++◌, map, flat_map, length, Bool, true, false, cond, not, ◌&&◌, nat_lt, nat_le, ◌==◌, inl, inr, refl, sym, ap₂, subst, ◌∙◌, arith, eqb-true}
use Rattle.std.specs.List.{list_all, range_with_len, position_or_len}
use Rattle.std.proofs.lemmas.Bool.{and_parts, and_from, le-leb, lt-ltb, cases_Bool, not_from_false, both_ways, not-true, false_from_ne_true, true_from_ne_false}
use Rattle.std.proofs.lemmas.Bool.Decides.{nat_tests}
use Rattle.std.proofs.lemmas.List.{length-append, length-map}
use Rattle.std.proofs.Math.Nat.{pow-le-pow_right}
use Rattle.poly_cells.specs.Coordinates.{Coordinates}
use Rattle.poly_cells.specs.Sets.{IsIn}
use Rattle.poly_cells.proofs.CoordinateLemmas.{coordinates_total}
use Rattle.poly_cells.proofs.SetLemmas.{in_append_cases, in_from_map, in_map}
use Rattle.poly_cells.proofs.CellTestLemmas.{in_from_has, has_from_in}
use Rattle.poly_cells.specs.CellTests.{has_cell}
use Rattle.shared_words.specs.Lists.{has, are_distinct}
use Rattle.cover_problem.specs.Problem.{IsProblem, is_name, is_item, is_option, is_small, are_new}
use Rattle.poly_cells.proofs.MemberLemmas.{all_pass, passes, in_flat_map, in_from_flat_map, in_from_range}
use Rattle.poly_texts.specs.Words as words
use Rattle.poly_place.specs.Turns.{from_right, from_left}
use Rattle.poly_texts.specs.Puzzle.{PuzzleValue, IsPuzzle, names_of, has_name, is_needed, pieces_of, maybe_names, any_names, equal_names}
use Rattle.poly_texts.specs.declared.usage.Usage.{Usage}
use Rattle.poly_texts.specs.declared.usage.Usage.TheVariants as usages
use Rattle.poly_texts.specs.Usages.{is_maybe, is_repeatable, are_so_many}
use Rattle.poly_texts.specs.Kinds.{KindValue, given_if, kind_names, kind_maybe, kind_any, is_unneeded}
use Rattle.poly_texts.proofs.KindLemmas.{given_own, told_by, names_flat}
use Rattle.poly_texts.proofs.NameLemmas.{pieces_named, pieces_new, maybe_named, maybe_in_order}
use Rattle.poly_texts.proofs.EqualLemmas.{equal_new, equal_needed}
use Rattle.poly_place.specs.Packings.{ChoiceValue, is_any, must_fill, neighbours, pairs, first_cell, IsPlaced, every_choice, leavings, leaving_option, Thing, a_piece, a_cell, a_node, needed_things, other_things, things, index_among, thing_item, levels_for, tree_levels, nodes, nodes_by, leaf_of, given, things_of, option_of, thing_name, packing_problem}
use Rattle.poly_place.proofs.DistinctLemmas.{in_from_name, name_from_in, IsDistinct, distinct_append, distinct_filter, distinct_map, distinct_rising, distinct_names}
use Rattle.poly_place.proofs.PairLemmas.{all_of, distinct_left, distinct_right, distinct_apart, in_group, among_groups, pair_differs, pair_next}
use Rattle.poly_place.proofs.TurnLemmas.{IsBelow, right_above, left_above, up}
use Rattle.poly_place.proofs.StandLemmas.{leaf_placed, least_in}
use Rattle.poly_place.proofs.EqualLemmas.{distinct_group}
use Rattle.poly_place.proofs.LeavingsLemmas.{IsLeaving, leaving_is, first_left, left_copy}
use Rattle.poly_place.proofs.PlacedLemmas.{has_shapes, placed_in}
use Rattle.poly_place.proofs.ThingLemmas.{place_in, nothing, item_same, needed_piece, needed_cell, needed_cases, needed_distinct, parts_in, in_given, thing_of_item, cell_part}
use Rattle.poly_place.proofs.ItemNameLemmas.{piece_named, cell_named, node_named, name_same, new_from}

-- ---- nodes

-- the levels are 12 at most
pub few_levels : (n : ℕ) → 2 ^ levels_for n ≤ 4096
unfolding levels_for
few_levels n = pow-le-pow_right {n = 2} (omega arith) (most (λ k. nat_le n (2 ^ k)) (range_with_len 0 12))
  where
    most : (test : ℕ → Bool) (xs : List ℕ) → position_or_len test xs ≤ length xs
    most test [] = omega arith
    most test (x ∷ xs) = by_test (test x) (most test xs)
      where
        by_test : (b : Bool) → position_or_len test xs ≤ length xs → cond (not b) (1 + position_or_len test xs) 0 ≤ suc (length xs)
        by_test true h = omega arith
        by_test false h = omega arith

distinct_range : (a n : ℕ) → IsDistinct (range_with_len a n)
distinct_range a zero = tt
distinct_range a (suc n) = ((λ i. let h = at_least (a + 1) n a i in absurd (omega arith)), distinct_range (a + 1) n)
  where
    at_least : (a n x : ℕ) → IsIn x (range_with_len a n) → a ≤ x
    at_least a zero x i = absurd i
    at_least a (suc n) x i = elim i [ inl e ↦ omega arith | inr r ↦ let h = at_least (a + 1) n x r in omega arith ]

pub distinct_flat_map : {X A : Type 0} (f : X → List A) (xs : List X) → ((x : X) → IsIn x xs → IsDistinct (f x)) → ((x y : X) (a : A) → IsIn x xs → IsIn y xs → IsIn a (f x) → IsIn a (f y) → x ≡ y) → IsDistinct xs → IsDistinct (flat_map f xs)
distinct_flat_map f [] each one d = tt
distinct_flat_map {X} {A} f (x ∷ xs) each one d =
    distinct_append (f x) (flat_map f xs) (each x (inl refl))
    (distinct_flat_map f xs (λ y i. each y (inr i)) (λ y z a i j. one y z a (inr i) (inr j)) d.1)
    (λ a i j.
    let y = in_from_flat_map f a xs j in
    d.0 (subst (λ (w : X). IsIn w xs) (sym (one x y.0 a (inl refl) (inr y.1) i y.2)) y.1))

distinct_if : (t : Bool) (x : ℕ) (xs : List ℕ) → (IsIn x xs → ⊥) → IsDistinct xs → IsDistinct (cond t (x ∷ xs) xs)
distinct_if true x xs new d = (new, d)
distinct_if false x xs new d = d

distinct_right_turns : (k n : ℕ) → IsBelow k n → IsDistinct (from_right k n)
distinct_right_turns zero n b = tt
distinct_right_turns (suc k) n b =
    distinct_if (n % 2 == 1) (n / 2) (from_right k (n / 2)) (λ i. let h = right_above k (n / 2) (n / 2) (up k n b) i in let l = (up k n b).low in omega arith) (distinct_right_turns k (n / 2) (up k n b))

distinct_left_turns : (k n : ℕ) → IsBelow k n → IsDistinct (from_left k n)
distinct_left_turns zero n b = tt
distinct_left_turns (suc k) n b =
    distinct_if (n % 2 == 0) (n / 2) (from_left k (n / 2)) (λ i. let h = left_above k (n / 2) (n / 2) (up k n b) i in let l = (up k n b).low in omega arith) (distinct_left_turns k (n / 2) (up k n b))

distinct_given : (b : Bool) (ts : List Thing) → IsDistinct ts → IsDistinct (given b ts)
distinct_given true ts d = d
distinct_given false ts d = tt

-- ---- pairs

pairs_in : (ns : List ℕ) → IsDistinct ns → IsDistinct (neighbours ns)
pairs_in [] d = tt
pairs_in (a ∷ []) d = tt
pairs_in (a ∷ b ∷ ns) d = ((λ i. d.0 (in_group a b (b ∷ ns) i).0), pairs_in (b ∷ ns) d.1)

pairs_among : (groups : List (List ℕ)) → IsDistinct (all_of groups) → IsDistinct (flat_map neighbours groups)
pairs_among [] d = tt
pairs_among (g ∷ gs) d =
    distinct_append (neighbours g) (flat_map neighbours gs) (pairs_in g (distinct_left g (all_of gs) d)) (pairs_among gs (distinct_right g (all_of gs) d))
    (λ q i j. distinct_apart (q.0) g (all_of gs) d (in_group (q.0) (q.1) g i).0 (among_groups (q.0) (q.1) gs j).0)

-- ---- the things of a puzzle

module _ (p : PuzzleValue) (z : IsPuzzle p) where
  pub pairs_distinct : IsDistinct (pairs p)
  pairs_distinct = pairs_among (equal_names p) (distinct_names (all_of (equal_names p)) (equal_new p z))

  -- pairs with one first piece are one
  pub one_pair : (q r : ℕ × ℕ) → IsIn q (pairs p) → IsIn r (pairs p) → q.0 ≡ r.0 → q ≡ r
  one_pair q r i j e = ap₂ (λ (m n : ℕ). (m, n)) e (pair_next p z (q.0) (q.1) (r.1) i (subst (λ (m : ℕ). IsIn (m, r.1) (pairs p)) (sym e) j))

  pair_named : (q : ℕ × ℕ) → IsIn q (pairs p) → IsIn (q.0) (names_of (pieces_of p))
  pair_named q i =
      let known = passes (λ (n : ℕ). has_name (names_of (pieces_of p)) n && is_needed p n) (all_of (equal_names p)) (equal_needed p z) (q.0) (among_groups (q.0) (q.1) (equal_names p) i).0 in
      in_from_name (names_of (pieces_of p)) (q.0) (and_parts (has_name (names_of (pieces_of p)) (q.0)) (is_needed p (q.0)) known).0

  -- a node of the trees
  node_of : (t : Thing) → IsIn t (flat_map (nodes p) (pairs p)) → (q : ℕ × ℕ) × IsIn q (pairs p) × (h : ℕ) × (h < 4096) × (t ≡ a_node (q.0) h)
  unfolding tree_levels
  node_of t i =
      let q = in_from_flat_map (nodes p) t (pairs p) i in
      let h = in_from_map (a_node (q.0.0)) t (range_with_len 1 (2 ^ tree_levels p - 1)) q.2 in
      let high = in_from_range h.0 1 (2 ^ tree_levels p - 1) h.1 in
      let few = few_levels (length p.region) in
      (q.0, q.1, h.0, omega (arith, high, few), h.2)

  nodes_distinct : IsDistinct (flat_map (nodes p) (pairs p))
  nodes_distinct =
      distinct_flat_map (nodes p) (pairs p)
      (λ q i. distinct_map (a_node (q.0)) (range_with_len 1 (2 ^ tree_levels p - 1)) (λ a b e. cc) (distinct_range 1 (2 ^ tree_levels p - 1)))
      (λ q r t i j a b.
      let g = in_from_map (a_node (q.0)) t (range_with_len 1 (2 ^ tree_levels p - 1)) a in
      let h = in_from_map (a_node (r.0)) t (range_with_len 1 (2 ^ tree_levels p - 1)) b in
      let e = g.2 in
      let f = h.2 in
      one_pair q r i j (same_tree t (q.0) (r.0) g.0 h.0 e f))
      pairs_distinct
    where
      same_tree : (t : Thing) (m n g h : ℕ) → t ≡ a_node m g → t ≡ a_node n h → m ≡ n
      same_tree t m n g h e f = cc

  maybe_is_name : (n : ℕ) → IsIn n (maybe_names p) → IsIn n (names_of (pieces_of p))
  maybe_is_name n i = in_from_name (names_of (pieces_of p)) n (passes (has_name (names_of (pieces_of p))) (maybe_names p) (maybe_named p z) n i)

  maybe_is_cell : (v : Coordinates) → IsIn v p.maybe_cells → IsIn v p.region
  maybe_is_cell v i = in_from_has p.region v (passes (has_cell p.region) p.maybe_cells z.maybe_within v i)

  piece_good : (n : ℕ) → IsIn n (names_of (pieces_of p)) → is_name (thing_name (a_piece n)) ≡ true
  piece_good n i = piece_named n (passes words.is_name (names_of (pieces_of p)) (pieces_named p z) n i)

  cell_good : (v : Coordinates) → IsIn v p.region → is_name (thing_name (a_cell v)) ≡ true
  cell_good v i = cell_named v (z.limits v i)

  good : (t : Thing) → IsIn t (things p) → is_name (thing_name t) ≡ true
  good t i =
      elim (in_append_cases t (needed_things p) (other_things p) i) [
        | inl a ↦
            elim (needed_cases p t a) [
              | inl n ↦ subst (λ (s : Thing). is_name (thing_name s) ≡ true) (sym n.1) (piece_good n.0 n.2)
              | inr v ↦
                  let c = and_parts (has_cell p.region v.0) (not (has_cell p.maybe_cells v.0)) v.2 in
                  subst (λ (s : Thing). is_name (thing_name s) ≡ true) (sym v.1) (cell_good v.0 (in_from_has p.region v.0 c.0))
            ]
        | inr b ↦
            elim (in_append_cases t (map a_piece (maybe_names p)) (map a_cell p.maybe_cells ++ flat_map (nodes p) (pairs p)) b) [
              | inl c ↦
                  let n = in_from_map a_piece t (maybe_names p) c in
                  subst (λ (s : Thing). is_name (thing_name s) ≡ true) (sym n.2) (piece_good n.0 (maybe_is_name n.0 n.1))
              | inr d ↦ elim (in_append_cases t (map a_cell p.maybe_cells) (flat_map (nodes p) (pairs p)) d) [
                | inl e ↦
                    let v = in_from_map a_cell t p.maybe_cells e in
                    subst (λ (s : Thing). is_name (thing_name s) ≡ true) (sym v.2) (cell_good v.0 (maybe_is_cell v.0 v.1))
                | inr e ↦
                    let q = node_of t e in
                    subst (λ (s : Thing). is_name (thing_name s) ≡ true) (sym q.4) (node_named (q.0.0) q.2 (passes words.is_name (names_of (pieces_of p)) (pieces_named p z) (q.0.0) (pair_named q.0 q.1)) q.3)
              ]
            ]
      ]

  all_named : list_all is_name (map thing_name (things p)) ≡ true
  all_named = all_pass is_name (map thing_name (things p)) (λ name i.
      let t = in_from_map thing_name name (things p) i in
      subst (λ (n : List ℕ). is_name n ≡ true) (sym t.2) (good t.0 t.1))

  maybe_names_distinct : IsDistinct (maybe_names p)
  maybe_names_distinct =
      subst (λ (ns : List ℕ). IsDistinct ns) (sym (maybe_in_order p z)) (distinct_filter (has_name (maybe_names p)) (names_of (pieces_of p)) (distinct_names (names_of (pieces_of p)) (pieces_new p z)))

  later_distinct : IsDistinct (map a_cell p.maybe_cells ++ flat_map (nodes p) (pairs p))
  later_distinct =
      distinct_append (map a_cell p.maybe_cells) (flat_map (nodes p) (pairs p))
      (distinct_map a_cell p.maybe_cells (λ a b e. cc) (distinct_rising coordinates_total p.maybe_cells z.maybe_rises)) nodes_distinct
      (λ t i j.
      let v = in_from_map a_cell t p.maybe_cells i in
      let q = node_of t j in
      let m = v.2 in
      let n = q.4 in
      cc)

  other_distinct : IsDistinct (other_things p)
  other_distinct =
      distinct_append (map a_piece (maybe_names p)) (map a_cell p.maybe_cells ++ flat_map (nodes p) (pairs p)) (distinct_map a_piece (maybe_names p) (λ a b e. cc) maybe_names_distinct)
      later_distinct
      (λ t i j.
      let name = in_from_map a_piece t (maybe_names p) i in
      let m = name.2 in
      elim (in_append_cases t (map a_cell p.maybe_cells) (flat_map (nodes p) (pairs p)) j) [
        | inl a ↦ let v = in_from_map a_cell t p.maybe_cells a in let n = v.2 in cc
        | inr b ↦ let q = node_of t b in let n = q.4 in cc
      ])

  not_maybe : (n : ℕ) → is_needed p n ≡ true → has_name (maybe_names p) n ≡ false
  not_maybe n h = not-true _ (and_parts (not (has_name (maybe_names p) n)) (not (has_name (any_names p) n)) h).0

  apart : (t : Thing) → IsIn t (needed_things p) → IsIn t (other_things p) → ⊥
  apart t i j =
      elim (in_append_cases t (map a_piece (maybe_names p)) (map a_cell p.maybe_cells ++ flat_map (nodes p) (pairs p)) j) [
        | inl a ↦
            let n = in_from_map a_piece t (maybe_names p) a in
            elim (needed_cases p t i) [
              | inl m ↦
                  let same : n.0 ≡ m.0 = let e = n.2 in let f = m.1 in cc in
                  both_ways (has_name (maybe_names p) n.0) (not_maybe n.0 (subst (λ (k : ℕ). is_needed p k ≡ true) (sym same) m.3)) (name_from_in (maybe_names p) n.0 n.1)
              | inr v ↦ let e = n.2 in let f = v.1 in cc
            ]
        | inr b ↦ elim (in_append_cases t (map a_cell p.maybe_cells) (flat_map (nodes p) (pairs p)) b) [
          | inl c ↦
              let w = in_from_map a_cell t p.maybe_cells c in
              elim (needed_cases p t i) [
                | inl m ↦ let e = w.2 in let f = m.1 in cc
                | inr v ↦
                    let same : w.0 ≡ v.0 = let e = w.2 in let f = v.1 in cc in
                    both_ways (has_cell p.maybe_cells w.0)
                    (not-true _ (and_parts (has_cell p.region w.0) (not (has_cell p.maybe_cells w.0)) (subst (λ (u : Coordinates). must_fill p u ≡ true) (sym same) v.2)).1) (has_from_in p.maybe_cells w.0 w.1)
              ]
          | inr c ↦
              let q = node_of t c in
              let e = q.4 in
              elim (needed_cases p t i) [
                | inl m ↦ let f = m.1 in cc
                | inr v ↦ let f = v.1 in cc
              ]
        ]
      ]

  things_distinct : IsDistinct (things p)
  things_distinct = distinct_append (needed_things p) (other_things p) (needed_distinct p z) other_distinct apart

  all_new : are_new (map thing_name (things p)) ≡ true
  all_new = new_from (map thing_name (things p)) (distinct_map thing_name (things p) name_same things_distinct)

  -- ---- something is required

  no_needed : length (needed_things p) ≡ 0 → (t : Thing) → IsIn t (needed_things p) → ⊥
  no_needed e t i = let at = (place_in nothing t (needed_things p) i).0 in omega (arith, e, at)

  -- the piece of a symbol that names one
  named_in : (k : KindValue) → IsIn k p.kinds → (n : ℕ) → IsIn n (kind_names k) → IsIn n (names_of (pieces_of p))
  unfolding pieces_of
  named_in k i n j = subst (λ (ns : List ℕ). IsIn n ns) (sym (names_flat p.kinds)) (in_flat_map kind_names n k p.kinds i j)

  -- a piece of a kind that says no more of it is needed
  needed_of : (k : KindValue) → IsIn k p.kinds → is_maybe k.usage ≡ false → is_repeatable k.usage ≡ false → (n : ℕ) → IsIn n k.symbols → is_needed p n ≡ true
  unfolding maybe_names any_names
  needed_of k there e f n i =
      let told = told_by p.kinds z.new in
      and_from _ _
      (not_from_false _ (told kind_maybe (given_own (λ j. is_maybe j.usage)) k there n i ∙ ap (λ b. has_name (given_if b (kind_names k)) n) e))
      (not_from_false _ (told kind_any (given_own (λ j. is_repeatable j.usage)) k there n i ∙ ap (λ b. has_name (given_if b (kind_names k)) n) f))

  some_first : (ns : List ℕ) → 0 < length ns → (n : ℕ) × IsIn n ns
  some_first [] h = absurd (omega (arith, h))
  some_first (n ∷ ns) h = (n, inl refl)

  -- a kind has a symbol, so of a kind none of whose pieces is needed no packing has to use one
  unneeded_kind : (k : KindValue) → IsIn k p.kinds → ((n : ℕ) → IsIn n (kind_names k) → is_needed p n ≡ true → ⊥) → is_unneeded k ≡ true
  unneeded_kind k there none = by_usage k.usage refl (z.kinds_are k there).many
    where
      by_usage : (u : Usage) → k.usage ≡ u → are_so_many u (length k.symbols) ≡ true → is_unneeded k ≡ true
      by_usage usages.Once e h =
          let n = some_first k.symbols (grind (arith, nat_tests)) in
          absurd (none n.0 (rw e n.1) (needed_of k there (ap is_maybe e) (ap is_repeatable e) n.0 n.1))
      by_usage usages.Maybe e h = ap (λ u. is_maybe u || (is_repeatable u || (k.spare == length k.symbols))) e
      by_usage usages.Any e h = ap (λ u. is_maybe u || (is_repeatable u || (k.spare == length k.symbols))) e
      by_usage usages.Copies e h =
          let n = some_first k.symbols (grind (arith, nat_tests)) in
          absurd (none n.0 (rw e n.1) (needed_of k there (ap is_maybe e) (ap is_repeatable e) n.0 n.1))

  some_needed : 0 < length (needed_things p)
  some_needed =
      elim (cases_Bool (nat_lt 0 (length (needed_things p)))) [
        | inl t ↦ is_lt (length (needed_things p)) t
        | inr f ↦
            let e = is_none (length (needed_things p)) f in
            let kinds : list_all is_unneeded p.kinds ≡ true =
            all_pass is_unneeded p.kinds (λ k i. unneeded_kind k i (λ n j g. no_needed e (a_piece n) (needed_piece p n (named_in k i n j) g))) in
            let cells : list_all (has_cell p.maybe_cells) p.region ≡ true =
            all_pass (has_cell p.maybe_cells) p.region (λ v i. true_from_ne_false _ (λ g.
            no_needed e (a_cell v)
            (needed_cell p v (and_from (has_cell p.region v) (not (has_cell p.maybe_cells v)) (has_from_in p.region v i) (not_from_false (has_cell p.maybe_cells v) g))))) in
            let all = and_from (list_all is_unneeded p.kinds) (list_all (has_cell p.maybe_cells) p.region) kinds cells in
            absurd (both_ways _ z.required all)
      ]
    where
      is_lt : (n : ℕ) → nat_lt 0 n ≡ true → 0 < n
      is_lt n h = grind (arith, nat_tests)

      is_none : (n : ℕ) → nat_lt 0 n ≡ false → n ≡ 0
      is_none n h = grind (arith, nat_tests)

  -- ---- options

  -- a node by a pair
  node_by : (c : ChoiceValue) (q : ℕ × ℕ) (t : Thing) → IsIn t (nodes_by p c q) → (h : ℕ) × (t ≡ a_node (q.0) h)
  node_by c q t i =
      let rights = map (a_node (q.0)) (from_right (tree_levels p) (leaf_of p c)) in
      let lefts = map (a_node (q.0)) (from_left (tree_levels p) (leaf_of p c)) in
      elim (in_append_cases t (given (c.name == q.0) rights) (given (c.name == q.1) lefts) i) [
        | inl l ↦ let h = in_from_map (a_node (q.0)) t (from_right (tree_levels p) (leaf_of p c)) (in_given (c.name == q.0) t rights l).1 in (h.0, h.2)
        | inr r ↦ let h = in_from_map (a_node (q.0)) t (from_left (tree_levels p) (leaf_of p c)) (in_given (c.name == q.1) t lefts r).1 in (h.0, h.2)
      ]

  by_distinct : (c : ChoiceValue) → IsBelow (tree_levels p) (leaf_of p c) → (q : ℕ × ℕ) → IsIn q (pairs p) → IsDistinct (nodes_by p c q)
  by_distinct c b q i =
      let rights = map (a_node (q.0)) (from_right (tree_levels p) (leaf_of p c)) in
      let lefts = map (a_node (q.0)) (from_left (tree_levels p) (leaf_of p c)) in
      distinct_append (given (c.name == q.0) rights) (given (c.name == q.1) lefts)
      (distinct_given (c.name == q.0) rights (distinct_map (a_node (q.0)) (from_right (tree_levels p) (leaf_of p c)) (λ x y e. cc) (distinct_right_turns (tree_levels p) (leaf_of p c) b)))
      (distinct_given (c.name == q.1) lefts (distinct_map (a_node (q.0)) (from_left (tree_levels p) (leaf_of p c)) (λ x y e. cc) (distinct_left_turns (tree_levels p) (leaf_of p c) b)))
      (λ t l r. pair_differs p z (q.0) (q.1) i (sym (eqb-true c.name (q.0) (in_given (c.name == q.0) t rights l).0) ∙ eqb-true c.name (q.1) (in_given (c.name == q.1) t lefts r).0))

  all_by_distinct : (c : ChoiceValue) → IsBelow (tree_levels p) (leaf_of p c) → IsDistinct (flat_map (nodes_by p c) (pairs p))
  all_by_distinct c b =
      distinct_flat_map (nodes_by p c) (pairs p) (by_distinct c b)
      (λ q r t i j x y.
      let g = node_by c q t x in
      let h = node_by c r t y in
      one_pair q r i j (same_tree t (q.0) (r.0) g.0 h.0 g.1 h.1))
      pairs_distinct
    where
      same_tree : (t : Thing) (m n g h : ℕ) → t ≡ a_node m g → t ≡ a_node n h → m ≡ n
      same_tree t m n g h e f = cc

  parts_distinct : (c : ChoiceValue) → IsPlaced p c → IsBelow (tree_levels p) (leaf_of p c) → IsDistinct (things_of p c)
  parts_distinct c h b =
      distinct_append (given (not (is_any p c.name)) (a_piece c.name ∷ [])) (map a_cell c.cells ++ flat_map (nodes_by p c) (pairs p))
      (distinct_given (not (is_any p c.name)) (a_piece c.name ∷ []) ((λ i. i), tt))
      (distinct_append (map a_cell c.cells) (flat_map (nodes_by p c) (pairs p)) (distinct_map a_cell c.cells (λ x y e. cc) (distinct_rising coordinates_total c.cells h.rises))
      (all_by_distinct c b)
      (λ t i j.
      let v = in_from_map a_cell t c.cells i in
      let q = in_from_flat_map (nodes_by p c) t (pairs p) j in
      let k = node_by c q.0 t q.2 in
      let e = v.2 in
      let f = k.1 in
      cc))
      (λ t i j.
      elim (in_given (not (is_any p c.name)) t (a_piece c.name ∷ []) i).1 [
        | inl e ↦ elim (in_append_cases t (map a_cell c.cells) (flat_map (nodes_by p c) (pairs p)) j) [
          | inl l ↦ let v = in_from_map a_cell t c.cells l in let f = v.2 in cc
          | inr r ↦
              let q = in_from_flat_map (nodes_by p c) t (pairs p) r in
              let k = node_by c q.0 t q.2 in
              let f = k.1 in
              cc
        ]
        | inr n ↦ absurd n
      ])

  distinct_items : (ts : List Thing) → ((t : Thing) → IsIn t ts → IsIn t (things p)) → IsDistinct ts → are_distinct (map (thing_item p) ts) ≡ true
  distinct_items [] inside d = refl
  distinct_items (t ∷ ts) inside d =
      and_from (not (has (map (thing_item p) ts) (thing_item p t))) (are_distinct (map (thing_item p) ts)) alone (distinct_items ts (λ s i. inside s (inr i)) d.1)
    where
      alone : not (has (map (thing_item p) ts) (thing_item p t)) ≡ true
      alone = not_from_false _ (false_from_ne_true _ (λ h.
          let s = thing_of_item (thing_item p) (thing_item p t) ts h in
          d.0 (subst (λ (u : Thing). IsIn u ts) (item_same p s.0 t (inside s.0 (inr s.1)) (inside t (inl refl)) s.2) s.1)))

  item_within : (t : Thing) → IsIn t (things p) → is_item (length (map thing_name (things p))) (thing_item p t) ≡ true
  unfolding thing_item
  item_within t i =
      let at = (place_in nothing t (things p) i).0 in
      let long = length-map (things p) thing_name in
      and_from (nat_lt 0 (index_among t (things p) + 1)) (nat_le (index_among t (things p) + 1) (length (map thing_name (things p))))
      (lt-ltb 0 (index_among t (things p) + 1) (omega arith)) (le-leb (index_among t (things p) + 1) (length (map thing_name (things p))) (omega (arith, at, long)))

  -- an option has an item: its piece or its least cell
  some_item : (c : ChoiceValue) → IsPlaced p c → 0 < length (option_of p c)
  some_item c h =
      let v = in_map (thing_item p) (a_cell (first_cell c.cells)) (things_of p c) (cell_part p c (first_cell c.cells) (least_in p (has_shapes p z) c h)) in
      some_from_member (thing_item p (a_cell (first_cell c.cells))) (option_of p c) v
    where
      some_from_member : (n : ℕ) (ns : List ℕ) → IsIn n ns → 0 < length ns
      some_from_member n [] i = absurd i
      some_from_member n (m ∷ ns) i = omega arith

  option_good : (c : ChoiceValue) → IsPlaced p c → is_option (length (map thing_name (things p))) (option_of p c) ≡ true
  option_good c h =
      let b = leaf_placed p (has_shapes p z) c h in
      and_from (nat_lt 0 (length (option_of p c)) && are_distinct (option_of p c)) (list_all (is_item (length (map thing_name (things p)))) (option_of p c))
      (and_from (nat_lt 0 (length (option_of p c))) (are_distinct (option_of p c)) (lt-ltb 0 (length (option_of p c)) (some_item c h))
      (distinct_items (things_of p c) (parts_in p c h b) (parts_distinct c h b)))
      (all_pass (is_item (length (map thing_name (things p)))) (option_of p c) (λ n i.
      let t = in_from_map (thing_item p) n (things_of p c) i in
      subst (λ (k : ℕ). is_item (length (map thing_name (things p))) k ≡ true) (sym t.2) (item_within t.0 (parts_in p c h b t.0 t.1))))

  laying_options : list_all (is_option (length (map thing_name (things p)))) (map (option_of p) (every_choice p)) ≡ true
  laying_options = all_pass (is_option (length (map thing_name (things p)))) (map (option_of p) (every_choice p)) (λ o i.
      let c = in_from_map (option_of p) o (every_choice p) i in
      subst (λ (q : List ℕ). is_option (length (map thing_name (things p))) q ≡ true) (sym c.2) (option_good c.0 (placed_in p (has_shapes p z) c.0 c.1)))

  leaving_good : (parts : List ℕ × List ℕ) → IsLeaving p parts → is_option (length (map thing_name (things p))) (leaving_option p parts) ≡ true
  leaving_good parts l =
      let inside : (t : Thing) → IsIn t (map a_piece (parts.1)) → IsIn t (things p) = λ t i.
      let n = in_from_map a_piece t (parts.1) i in
      subst (λ (s : Thing). IsIn s (things p)) (sym n.2) (left_copy p z parts l n.0 n.1).thing in
      let whole = subst IsDistinct l.parted.whole (distinct_group (equal_names p) l.group (distinct_names (all_of (equal_names p)) (equal_new p z)) l.there) in
      let apart = distinct_map a_piece (parts.1) (λ x y e. cc) (distinct_right (parts.0) (parts.1) whole) in
      let first = in_map (thing_item p) (a_piece l.parted.first) (map a_piece (parts.1)) (in_map a_piece l.parted.first (parts.1) (first_left l.group parts l.parted)) in
      and_from (nat_lt 0 (length (leaving_option p parts)) && are_distinct (leaving_option p parts)) (list_all (is_item (length (map thing_name (things p)))) (leaving_option p parts))
      (and_from (nat_lt 0 (length (leaving_option p parts))) (are_distinct (leaving_option p parts))
      (lt-ltb 0 (length (leaving_option p parts)) (some_from (thing_item p (a_piece l.parted.first)) (leaving_option p parts) first))
      (distinct_items (map a_piece (parts.1)) inside apart))
      (all_pass (is_item (length (map thing_name (things p)))) (leaving_option p parts) (λ n i.
      let t = in_from_map (thing_item p) n (map a_piece (parts.1)) i in
      subst (λ (k : ℕ). is_item (length (map thing_name (things p))) k ≡ true) (sym t.2) (item_within t.0 (inside t.0 t.1))))
    where
      some_from : (n : ℕ) (ns : List ℕ) → IsIn n ns → 0 < length ns
      some_from n [] i = absurd i
      some_from n (m ∷ ns) i = omega arith

  all_options : list_all (is_option (length (map thing_name (things p)))) (map (option_of p) (every_choice p) ++ map (leaving_option p) (leavings p)) ≡ true
  all_options = all_pass (is_option (length (map thing_name (things p)))) (map (option_of p) (every_choice p) ++ map (leaving_option p) (leavings p)) (λ o i.
      elim (in_append_cases o (map (option_of p) (every_choice p)) (map (leaving_option p) (leavings p)) i) [
        | inl l ↦ passes (is_option (length (map thing_name (things p)))) (map (option_of p) (every_choice p)) laying_options o l
        | inr r ↦
            let parts = in_from_map (leaving_option p) o (leavings p) r in
            subst (λ (q : List ℕ). is_option (length (map thing_name (things p))) q ≡ true) (sym parts.2) (leaving_good parts.0 (leaving_is p parts.0 parts.1))
      ])

  pub is_problem : is_small (packing_problem p) ≡ true → IsProblem (packing_problem p)
  unfolding packing_problem
  is_problem small = record {
    some = some_needed;
    within =
        let long = length-map (things p) thing_name in
        let all = length-append (needed_things p) (other_things p) in
        omega (arith, long, all);
    named = all_named;
    new = all_new;
    options_are = all_options;
    small = small;
  }
