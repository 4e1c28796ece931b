-- The items of a puzzle's problem: each thing has one number, and the required ones have the first.
use Rattle.std.proofs.Common.{[], ◌^◌, flat_map, ap₂, Bool, ◌≡◌, ℕ, ◌+◌, ◌-◌, ◌<◌, ◌≤◌, List, ◌∷◌, ◌++◌, map, filter, length, get_or, true, false, cond, not, ◌==◌, ◌⊎◌, inl, inr, refl, sym, ap, subst, ◌∙◌, arith, eqb-true, eq-eqb}
use Rattle.std.proofs.lemmas.Bool.{and_from, cases_Bool, not_from_false, and_parts, cond-false, cond-true, ne_eqb, not-true}
use Rattle.poly_cells.specs.Coordinates.{Coordinates}
use Rattle.poly_cells.specs.Sets.{IsIn}
use Rattle.poly_cells.proofs.CoordinateLemmas.{is_same_Decides, coordinates_total}
use Rattle.poly_cells.proofs.SetLemmas.{in_append_left, in_append_right, in_append_cases, in_map, in_from_map, in_at}
use Rattle.poly_cells.proofs.CellTestLemmas.{in_from_has, has_from_in}
use Rattle.poly_cells.specs.CellTests.{has_cell}
use Rattle.poly_texts.specs.Puzzle.{PuzzleValue, IsPuzzle, names_of, has_name, is_needed, pieces_of, maybe_names}
use Rattle.shared_words.specs.Lists.{has}
use Rattle.poly_place.specs.Packings.{ChoiceValue, is_any, must_fill, IsPlaced, Thing, a_piece, a_cell, a_node, same_thing, needed_things, other_things, things, index_among, thing_item, things_of, pairs, tree_levels, nodes, nodes_by, leaf_of, given}
use Rattle.poly_cells.proofs.MemberLemmas.{in_flat_map, in_from_flat_map, in_to_range, in_from_filter, in_filter, some_passes, passes_some, first_at, first_within}
use Rattle.poly_texts.proofs.NameLemmas.{pieces_new}
use Rattle.poly_place.proofs.DistinctLemmas.{in_from_name, IsDistinct, distinct_append, distinct_filter, distinct_map, distinct_rising, distinct_names, distinct_at}
use Rattle.std.proofs.lemmas.List.Sums.{passes_at_first}
use Rattle.std.proofs.lemmas.List.Folds.{prefix_len-append}
use Rattle.std.specs.List.{position_or_len, range_with_len}
use Rattle.poly_place.specs.Turns.{from_right, from_left}
use Rattle.poly_place.proofs.TurnLemmas.{IsBelow, right_above, left_above, right_some, left_some}

-- ---- the test

pub same_is : (a b : Thing) → same_thing a b ≡ true → a ≡ b
same_is (a_piece m) (a_piece n) h = ap a_piece (eqb-true m n h)
same_is (a_cell v) (a_cell w) h = ap a_cell ((is_same_Decides v w).0 h)
same_is (a_node m h) (a_node n i) e =
    let parts = and_parts (m == n) (h == i) e in
    ap₂ a_node (eqb-true m n parts.0) (eqb-true h i parts.1)
same_is (a_piece m) (a_cell w) h = cc
same_is (a_piece m) (a_node n i) h = cc
same_is (a_cell v) (a_piece n) h = cc
same_is (a_cell v) (a_node n i) h = cc
same_is (a_node m h) (a_piece n) e = cc
same_is (a_node m h) (a_cell w) e = cc

pub same_itself : (a : Thing) → same_thing a a ≡ true
same_itself (a_piece m) = eq-eqb m m refl
same_itself (a_cell v) = (is_same_Decides v v).1 refl
same_itself (a_node m h) = and_from (m == m) (h == h) (eq-eqb m m refl) (eq-eqb h h refl)

-- ---- places

pub place_here : (t s : Thing) (ss : List Thing) → same_thing t s ≡ true → index_among t (s ∷ ss) ≡ 0
place_here t s ss h = ap (λ b. cond b 0 (index_among t ss + 1)) h

pub place_later : (t s : Thing) (ss : List Thing) → same_thing t s ≡ false → index_among t (s ∷ ss) ≡ index_among t ss + 1
place_later t s ss h = ap (λ b. cond b 0 (index_among t ss + 1)) h

pub place_is : (t : Thing) (ss : List Thing) → index_among t ss ≡ position_or_len (same_thing t) ss
place_is t ss = first_at (same_thing t) (index_among t) refl (λ s rest. ap (cond (same_thing t s) 0) (omega arith)) ss

-- the place of a member, which stands there
pub place_in : (d t : Thing) (ss : List Thing) → IsIn t ss → (index_among t ss < length ss) × (get_or ss (index_among t ss) d ≡ t)
place_in d t ss i =
    let within = first_within (same_thing t) ss t i (same_itself t) in
    (omega (arith, place_is t ss, within), ap (λ k. get_or ss k d) (place_is t ss) ∙ sym (same_is t _ (passes_at_first (same_thing t) ss d within)))

pub place_append : (t : Thing) (xs ys : List Thing) → IsIn t xs → index_among t (xs ++ ys) ≡ index_among t xs
place_append t xs ys i =
    let within = first_within (same_thing t) xs t i (same_itself t) in
    place_is t (xs ++ ys) ∙ prefix_len-append (λ s. not (same_thing t s)) xs ys ∙ cond-false _ _ _ (ne_eqb (position_or_len (same_thing t) xs) (length xs) (λ e. omega (arith, e, within))) ∙ sym (place_is t xs)

-- ---- items

pub nothing : Thing
nothing = a_piece 0

pub item_same : (p : PuzzleValue) (a b : Thing) → IsIn a (things p) → IsIn b (things p) → thing_item p a ≡ thing_item p b → a ≡ b
unfolding thing_item
item_same p a b i j e =
    let same : index_among a (things p) ≡ index_among b (things p) = omega (arith, e) in
    sym (place_in nothing a (things p) i).1 ∙ ap (λ (k : ℕ). get_or (things p) k nothing) same ∙ (place_in nothing b (things p) j).1

pub item_positive : (p : PuzzleValue) (t : Thing) → 0 < thing_item p t
unfolding thing_item
item_positive p t = omega arith

pub item_needed : (p : PuzzleValue) (t : Thing) → IsIn t (needed_things p) → thing_item p t ≤ length (needed_things p)
unfolding thing_item
item_needed p t i =
    let at = place_append t (needed_things p) (other_things p) i in
    let within = (place_in nothing t (needed_things p) i).0 in
    omega (arith, at, within)

pub needed_in : (p : PuzzleValue) (t : Thing) → IsIn t (needed_things p) → IsIn t (things p)
needed_in p t i = in_append_left t (needed_things p) (other_things p) i

-- ---- the required things

pub needed_piece : (p : PuzzleValue) (name : ℕ) → IsIn name (names_of (pieces_of p)) → is_needed p name ≡ true → IsIn (a_piece name) (needed_things p)
needed_piece p name i h =
    in_append_left (a_piece name) (map a_piece (filter (is_needed p) (names_of (pieces_of p)))) (map a_cell (filter (must_fill p) p.region))
    (in_map a_piece name (filter (is_needed p) (names_of (pieces_of p))) (in_filter (is_needed p) name (names_of (pieces_of p)) i h))

pub needed_cell : (p : PuzzleValue) (v : Coordinates) → must_fill p v ≡ true → IsIn (a_cell v) (needed_things p)
needed_cell p v h =
    in_append_right (a_cell v) (map a_piece (filter (is_needed p) (names_of (pieces_of p)))) (map a_cell (filter (must_fill p) p.region))
    (in_map a_cell v (filter (must_fill p) p.region)
    (in_filter (must_fill p) v p.region (in_from_has p.region v (and_parts (has_cell p.region v) (not (has_cell p.maybe_cells v)) h).0) h))

-- a required thing is a required piece, or a cell that has to be filled
abbrev pub IsNeeded : PuzzleValue → Thing → Type 0
IsNeeded p t =
    ((name : ℕ) × (t ≡ a_piece name) × IsIn name (names_of (pieces_of p)) × (is_needed p name ≡ true)) ⊎ ((v : Coordinates) × (t ≡ a_cell v) × (must_fill p v ≡ true))

pub needed_cases : (p : PuzzleValue) (t : Thing) → IsIn t (needed_things p) → IsNeeded p t
needed_cases p t i =
    elim (in_append_cases t (map a_piece (filter (is_needed p) (names_of (pieces_of p)))) (map a_cell (filter (must_fill p) p.region)) i) [
      | inl l ↦
          let name = in_from_map a_piece t (filter (is_needed p) (names_of (pieces_of p))) l in
          let there = in_from_filter (is_needed p) name.0 (names_of (pieces_of p)) name.1 in
          inl (name.0, name.2, there.0, there.1)
      | inr r ↦
          let v = in_from_map a_cell t (filter (must_fill p) p.region) r in
          let there = in_from_filter (must_fill p) v.0 p.region v.1 in
          inr (v.0, v.2, there.1)
    ]

pub needed_distinct : (p : PuzzleValue) → IsPuzzle p → IsDistinct (needed_things p)
needed_distinct p z =
    distinct_append (map a_piece (filter (is_needed p) (names_of (pieces_of p)))) (map a_cell (filter (must_fill p) p.region))
    (distinct_map a_piece (filter (is_needed p) (names_of (pieces_of p))) (λ a b e. cc) (distinct_filter (is_needed p) (names_of (pieces_of p)) (distinct_names (names_of (pieces_of p)) (pieces_new p z))))
    (distinct_map a_cell (filter (must_fill p) p.region) (λ a b e. cc) (distinct_filter (must_fill p) p.region (distinct_rising coordinates_total p.region z.rises)))
    (λ t i j.
    let name = in_from_map a_piece t (filter (is_needed p) (names_of (pieces_of p))) i in
    let v = in_from_map a_cell t (filter (must_fill p) p.region) j in
    let m = name.2 in
    let n = v.2 in
    cc)

-- each of the first items stands for a required thing
pub needed_at : (p : PuzzleValue) → IsPuzzle p → (i : ℕ) → 0 < i → i ≤ length (needed_things p) → (t : Thing) × IsIn t (needed_things p) × (thing_item p t ≡ i)
unfolding thing_item
needed_at p z i some within =
    let ts = needed_things p in
    let k : i - 1 < length ts = omega arith in
    let t = get_or ts (i - 1) nothing in
    let here : IsIn t ts = in_at ts (i - 1) nothing k in
    let found = place_in nothing t ts here in
    let same : index_among t ts ≡ i - 1 = distinct_at nothing ts (index_among t ts) (i - 1) (needed_distinct p z) found.0 k found.1 in
    let at = place_append t ts (other_things p) here in
    (t, here, omega (arith, at, same))

-- ---- the parts of a choice are things of the puzzle

pub piece_in : (p : PuzzleValue) (name : ℕ) → IsIn name (names_of (pieces_of p)) → is_any p name ≡ false → IsIn (a_piece name) (things p)
piece_in p name i single =
    elim (cases_Bool (has_name (maybe_names p) name)) [
      | inl h ↦
          in_append_right (a_piece name) (needed_things p) (other_things p)
          (in_append_left (a_piece name) (map a_piece (maybe_names p)) (map a_cell p.maybe_cells ++ flat_map (nodes p) (pairs p))
          (in_map a_piece name (maybe_names p) (in_from_name (maybe_names p) name h)))
      | inr h ↦
          needed_in p (a_piece name)
          (needed_piece p name i
          (and_from (not (has_name (maybe_names p) name)) (not (is_any p name)) (not_from_false (has_name (maybe_names p) name) h) (not_from_false (is_any p name) single)))
    ]

pub cell_in : (p : PuzzleValue) (v : Coordinates) → IsIn v p.region → IsIn (a_cell v) (things p)
cell_in p v i =
    elim (cases_Bool (has_cell p.maybe_cells v)) [
      | inl h ↦
          in_append_right (a_cell v) (needed_things p) (other_things p)
          (in_append_right (a_cell v) (map a_piece (maybe_names p)) (map a_cell p.maybe_cells ++ flat_map (nodes p) (pairs p))
          (in_append_left (a_cell v) (map a_cell p.maybe_cells) (flat_map (nodes p) (pairs p)) (in_map a_cell v p.maybe_cells (in_from_has p.maybe_cells v h))))
      | inr h ↦
          needed_in p (a_cell v)
          (needed_cell p v (and_from (has_cell p.region v) (not (has_cell p.maybe_cells v)) (has_from_in p.region v i) (not_from_false (has_cell p.maybe_cells v) h)))
    ]

pub node_in : (p : PuzzleValue) (pair : ℕ × ℕ) (h : ℕ) → IsIn pair (pairs p) → 0 < h → h < 2 ^ tree_levels p → IsIn (a_node (pair.0) h) (things p)
node_in p pair h i some within =
    in_append_right (a_node (pair.0) h) (needed_things p) (other_things p)
    (in_append_right (a_node (pair.0) h) (map a_piece (maybe_names p)) (map a_cell p.maybe_cells ++ flat_map (nodes p) (pairs p))
    (in_append_right (a_node (pair.0) h) (map a_cell p.maybe_cells) (flat_map (nodes p) (pairs p))
    (in_flat_map (nodes p) (a_node (pair.0) h) pair (pairs p) i
    (in_map (a_node (pair.0)) h (range_with_len 1 (2 ^ tree_levels p - 1)) (in_to_range h 1 (2 ^ tree_levels p - 1) some (omega arith))))))

-- ---- things that are given

pub given_in : (b : Bool) (t : Thing) (ts : List Thing) → b ≡ true → IsIn t ts → IsIn t (given b ts)
given_in b t ts e i = subst (λ (l : List Thing). IsIn t l) (sym (cond-true b ts [] e)) i

pub in_given : (b : Bool) (t : Thing) (ts : List Thing) → IsIn t (given b ts) → (b ≡ true) × IsIn t ts
in_given true t ts i = (refl, i)
in_given false t ts i = absurd i

-- what a thing of a choice is: its piece, one of its cells, or a node of a pair's tree that its leaf reaches from the right or left
pub data PartOf (p : PuzzleValue) (c : ChoiceValue) (t : Thing) : Type 0 where
  the_piece : is_any p c.name ≡ false → t ≡ a_piece c.name → PartOf p c t
  the_cell : (v : Coordinates) → IsIn v c.cells → t ≡ a_cell v → PartOf p c t
  on_right : (pair : ℕ × ℕ) (h : ℕ) → IsIn pair (pairs p) → c.name ≡ pair.0 → IsIn h (from_right (tree_levels p) (leaf_of p c)) → t ≡ a_node (pair.0) h → PartOf p c t
  on_left : (pair : ℕ × ℕ) (h : ℕ) → IsIn pair (pairs p) → c.name ≡ pair.1 → IsIn h (from_left (tree_levels p) (leaf_of p c)) → t ≡ a_node (pair.0) h → PartOf p c t

node_part : (p : PuzzleValue) (c : ChoiceValue) (t : Thing) (pair : ℕ × ℕ) → IsIn pair (pairs p) → IsIn t (nodes_by p c pair) → PartOf p c t
node_part p c t pair i j =
    let rights = map (a_node (pair.0)) (from_right (tree_levels p) (leaf_of p c)) in
    let lefts = map (a_node (pair.0)) (from_left (tree_levels p) (leaf_of p c)) in
    elim (in_append_cases t (given (c.name == pair.0) rights) (given (c.name == pair.1) lefts) j) [
      | inl l ↦
          let there = in_given (c.name == pair.0) t rights l in
          let h = in_from_map (a_node (pair.0)) t (from_right (tree_levels p) (leaf_of p c)) there.1 in
          on_right pair h.0 i (eqb-true c.name (pair.0) there.0) h.1 h.2
      | inr r ↦
          let there = in_given (c.name == pair.1) t lefts r in
          let h = in_from_map (a_node (pair.0)) t (from_left (tree_levels p) (leaf_of p c)) there.1 in
          on_left pair h.0 i (eqb-true c.name (pair.1) there.0) h.1 h.2
    ]

pub part_of : (p : PuzzleValue) (c : ChoiceValue) (t : Thing) → IsIn t (things_of p c) → PartOf p c t
part_of p c t i =
    elim (in_append_cases t (given (not (is_any p c.name)) (a_piece c.name ∷ [])) (map a_cell c.cells ++ flat_map (nodes_by p c) (pairs p)) i) [
      | inl l ↦
          let there = in_given (not (is_any p c.name)) t (a_piece c.name ∷ []) l in
          elim there.1 [ inl e ↦ the_piece (not-true (is_any p c.name) there.0) e | inr n ↦ absurd n ]
      | inr r ↦ elim (in_append_cases t (map a_cell c.cells) (flat_map (nodes_by p c) (pairs p)) r) [
        | inl l ↦ let v = in_from_map a_cell t c.cells l in the_cell v.0 v.1 v.2
        | inr s ↦ let pair = in_from_flat_map (nodes_by p c) t (pairs p) s in node_part p c t pair.0 pair.1 pair.2
      ]
    ]

pub piece_part : (p : PuzzleValue) (c : ChoiceValue) → is_any p c.name ≡ false → IsIn (a_piece c.name) (things_of p c)
piece_part p c single =
    in_append_left (a_piece c.name) (given (not (is_any p c.name)) (a_piece c.name ∷ [])) (map a_cell c.cells ++ flat_map (nodes_by p c) (pairs p))
    (given_in (not (is_any p c.name)) (a_piece c.name) (a_piece c.name ∷ []) (not_from_false (is_any p c.name) single) (inl refl))

pub cell_part : (p : PuzzleValue) (c : ChoiceValue) (v : Coordinates) → IsIn v c.cells → IsIn (a_cell v) (things_of p c)
cell_part p c v i =
    in_append_right (a_cell v) (given (not (is_any p c.name)) (a_piece c.name ∷ [])) (map a_cell c.cells ++ flat_map (nodes_by p c) (pairs p))
    (in_append_left (a_cell v) (map a_cell c.cells) (flat_map (nodes_by p c) (pairs p)) (in_map a_cell v c.cells i))

nodes_part : (p : PuzzleValue) (c : ChoiceValue) (pair : ℕ × ℕ) (t : Thing) → IsIn pair (pairs p) → IsIn t (nodes_by p c pair) → IsIn t (things_of p c)
nodes_part p c pair t i j =
    in_append_right t (given (not (is_any p c.name)) (a_piece c.name ∷ [])) (map a_cell c.cells ++ flat_map (nodes_by p c) (pairs p))
    (in_append_right t (map a_cell c.cells) (flat_map (nodes_by p c) (pairs p)) (in_flat_map (nodes_by p c) t pair (pairs p) i j))

pub right_part : (p : PuzzleValue) (c : ChoiceValue) (pair : ℕ × ℕ) (h : ℕ) → IsIn pair (pairs p) → c.name ≡ pair.0 → IsIn h (from_right (tree_levels p) (leaf_of p c)) → IsIn (a_node (pair.0) h) (things_of p c)
right_part p c pair h i e j =
    let rights = map (a_node (pair.0)) (from_right (tree_levels p) (leaf_of p c)) in
    let lefts = map (a_node (pair.0)) (from_left (tree_levels p) (leaf_of p c)) in
    nodes_part p c pair (a_node (pair.0) h) i
    (in_append_left (a_node (pair.0) h) (given (c.name == pair.0) rights) (given (c.name == pair.1) lefts)
    (given_in (c.name == pair.0) (a_node (pair.0) h) rights (eq-eqb c.name (pair.0) e) (in_map (a_node (pair.0)) h (from_right (tree_levels p) (leaf_of p c)) j)))

pub left_part : (p : PuzzleValue) (c : ChoiceValue) (pair : ℕ × ℕ) (h : ℕ) → IsIn pair (pairs p) → c.name ≡ pair.1 → IsIn h (from_left (tree_levels p) (leaf_of p c)) → IsIn (a_node (pair.0) h) (things_of p c)
left_part p c pair h i e j =
    let rights = map (a_node (pair.0)) (from_right (tree_levels p) (leaf_of p c)) in
    let lefts = map (a_node (pair.0)) (from_left (tree_levels p) (leaf_of p c)) in
    nodes_part p c pair (a_node (pair.0) h) i
    (in_append_right (a_node (pair.0) h) (given (c.name == pair.0) rights) (given (c.name == pair.1) lefts)
    (given_in (c.name == pair.1) (a_node (pair.0) h) lefts (eq-eqb c.name (pair.1) e) (in_map (a_node (pair.0)) h (from_left (tree_levels p) (leaf_of p c)) j)))

pub parts_in : (p : PuzzleValue) (c : ChoiceValue) → IsPlaced p c → IsBelow (tree_levels p) (leaf_of p c) → (t : Thing) → IsIn t (things_of p c) → IsIn t (things p)
parts_in p c h b t i = elim (part_of p c t i) [
  | the_piece single e ↦ subst (λ (u : Thing). IsIn u (things p)) (sym e) (piece_in p c.name (in_map (λ (n : ℕ × List Coordinates). n.0) (c.name, h.piece) (pieces_of p) h.named) single)
  | the_cell v j e ↦ subst (λ (u : Thing). IsIn u (things p)) (sym e) (cell_in p v (h.placed.inside v j))
  | on_right pair k j n r e ↦ subst (λ (u : Thing). IsIn u (things p)) (sym e) (node_in p pair k j (right_some (tree_levels p) (leaf_of p c) k b r) (right_above (tree_levels p) (leaf_of p c) k b r))
  | on_left pair k j n l e ↦ subst (λ (u : Thing). IsIn u (things p)) (sym e) (node_in p pair k j (left_some (tree_levels p) (leaf_of p c) k b l) (left_above (tree_levels p) (leaf_of p c) k b l))
]

-- ---- the items of an option

pub has_item : (f : Thing → ℕ) (t : Thing) (ts : List Thing) → IsIn t ts → has (map f ts) (f t) ≡ true
has_item f t ts i = passes_some (λ n. n == f t) (f t) (map f ts) (in_map f t ts i) (eq-eqb (f t) (f t) refl)

pub thing_of_item : (f : Thing → ℕ) (i : ℕ) (ts : List Thing) → has (map f ts) i ≡ true → (t : Thing) × IsIn t ts × (f t ≡ i)
thing_of_item f i ts h =
    let n = some_passes (λ m. m == i) (map f ts) h in
    let t = in_from_map f n.0 ts n.1 in
    (t.0, t.1, sym t.2 ∙ eqb-true n.0 i n.2)
