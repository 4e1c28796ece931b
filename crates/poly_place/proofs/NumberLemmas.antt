-- The number of each item: by a table for cells, by their places for pieces and nodes.
use Rattle.std.proofs.Common.{ap₂, cond, ◌≡◌, ℕ, ◌+◌, ◌<◌, ◌≤◌, List, [], ◌∷◌, ◌++◌, map, length, take, true, not, inl, inr, refl, sym, ap, subst, ◌∙◌, arith, slice_set, Bool, false, ◌&&◌, ◌==◌, zero, suc, ◌-◌, ◌*◌, ◌^◌, flat_map, get_or, replicate, slice_index_or}
use Rattle.std.proofs.Math.ListN.{length-set}
use Rattle.std.proofs.lemmas.Bool.{and_parts, and_from, cases_Bool, not_from_false, both_ways, not-true, cond-true, cases_lt, eq-eqb, cases_eq, ne_eqb}
use Rattle.std.proofs.lemmas.List.{get_or-set_same, get_or-set_other, take_at, length-map}
use Rattle.poly_cells.specs.Coordinates.{Coordinates, IsInGrid}
use Rattle.poly_cells.specs.Sets.{IsIn}
use Rattle.poly_cells.specs.Shapes.{AllInGrid, IsShape}
use Rattle.poly_cells.proofs.CoordinateLemmas.{coordinates_total, is_same_Decides}
use Rattle.poly_cells.proofs.SetLemmas.{in_append_left, in_append_cases, in_map, in_from_map, in_at}
use Rattle.poly_cells.proofs.CellTestLemmas.{in_from_has, has_from_in, is_same_symmetric}
use Rattle.poly_cells.specs.CellTests.{is_same, has_cell}
use Rattle.poly_texts.specs.Puzzle.{PuzzleValue, IsPuzzle, names_of, has_name, pieces_of, maybe_names, any_names}
use Rattle.poly_place.specs.Packings.{must_fill, Thing, a_piece, a_cell, same_thing, needed_things, index_among, thing_item, a_node, other_things, pairs, tree_levels, nodes, is_any, place_of}
use Rattle.poly_place.specs.Tables.{bit_index}
use Rattle.poly_place.specs.Compiled.{needed_names, filled_cells, item_number_at, numbered, AreNumbers, before_nodes, ArePlaces, ArePlacesOf}
use Rattle.poly_cells.proofs.MemberLemmas.{passes, in_from_filter, in_filter, same_map, in_to_range}
use Rattle.poly_place.proofs.DistinctLemmas.{in_from_name, IsDistinct, distinct_filter, distinct_rising}
use Rattle.poly_place.proofs.TableLemmas.{low, bit_index_same}
use Rattle.poly_place.proofs.ThingLemmas.{same_is, place_here, place_later, place_in, place_append, nothing, needed_piece, needed_cell, needed_cases, place_is}
use Rattle.std.proofs.lemmas.List.Sums.{passes_at_first, prefix_len-le-length}
use Rattle.std.proofs.lemmas.List.Folds.{prefix_len-append}
use Rattle.std.specs.List.{position_or_len, range_with_len}
use Rattle.std.proofs.lemmas.List.FromFn.{length-range_with_len}
use mathlib.Core.List.{map-map}
use Rattle.poly_place.specs.Turns.{from_right, from_left}
use Rattle.poly_place.proofs.TurnLemmas.{IsBelow, right_above, left_above, right_some, left_some}
use Rattle.poly_place.proofs.CompiledLemmas.{pairs_distinct, one_pair}

-- ---- places in joined lists

-- what stands before the end is a member
place_found : (t : Thing) (xs : List Thing) → index_among t xs < length xs → IsIn t xs
place_found t xs h =
    let within : position_or_len (same_thing t) xs < length xs = omega (arith, place_is t xs, h) in
    subst (λ s. IsIn s xs) (sym (same_is t _ (passes_at_first (same_thing t) xs t within))) (in_at xs (position_or_len (same_thing t) xs) t within)

pub place_limit : (t : Thing) (xs : List Thing) → index_among t xs ≤ length xs
place_limit t xs = omega (arith, place_is t xs, prefix_len-le-length (λ s. not (same_thing t s)) xs)

pub place_past : (t : Thing) (xs ys : List Thing) → (IsIn t xs → ⊥) → index_among t (xs ++ ys) ≡ length xs + index_among t ys
place_past t xs ys no_one =
    let full : position_or_len (same_thing t) xs ≡ length xs =
    elim (cases_lt (index_among t xs) (length xs)) [ inl lt ↦ absurd (no_one (place_found t xs lt)) | inr past ↦ omega (arith, past, place_is t xs, place_limit t xs) ] in
    place_is t (xs ++ ys) ∙ prefix_len-append (λ s. not (same_thing t s)) xs ys ∙ cond-true _ _ _ (eq-eqb _ _ full) ∙ ap (λ k. length xs + k) (sym (place_is t ys))

-- ---- a piece's item

no_cell : (name : ℕ) (vs : List Coordinates) → IsIn (a_piece name) (map a_cell vs) → ⊥
no_cell name vs i = let v = in_from_map a_cell (a_piece name) vs i in let m = v.2 in cc

no_piece : (v : Coordinates) (names : List ℕ) → IsIn (a_cell v) (map a_piece names) → ⊥
no_piece v names i = let n = in_from_map a_piece (a_cell v) names i in let m = n.2 in cc

pub needed_item : (p : PuzzleValue) (name place : ℕ) → place ≡ index_among (a_piece name) (map a_piece (needed_names p)) → place < length (needed_names p) → thing_item p (a_piece name) ≡ place + 1
unfolding thing_item
needed_item p name place e h =
    let long : length (map a_piece (needed_names p)) ≡ length (needed_names p) = length-map (needed_names p) a_piece in
    let here = place_found (a_piece name) (map a_piece (needed_names p)) (omega (arith, e, h, long)) in
    let inner = place_append (a_piece name) (map a_piece (needed_names p)) (map a_cell (filled_cells p)) here in
    let outer = place_append (a_piece name) (needed_things p) (other_things p) (in_append_left (a_piece name) (map a_piece (needed_names p)) (map a_cell (filled_cells p)) here) in
    omega (arith, e, inner, outer)

pub maybe_item : (p : PuzzleValue) (name place later : ℕ) → IsIn name (names_of (pieces_of p)) → is_any p name ≡ false → place ≡ index_among (a_piece name) (map a_piece (needed_names p))
    → length (needed_names p) ≤ place → later ≡ index_among (a_piece name) (map a_piece (maybe_names p)) → thing_item p (a_piece name) ≡ length (needed_things p) + later + 1
unfolding thing_item
maybe_item p name place later member single e h l =
    let long : length (map a_piece (needed_names p)) ≡ length (needed_names p) = length-map (needed_names p) a_piece in
    let out : IsIn (a_piece name) (map a_piece (needed_names p)) → ⊥ = λ i. let at = (place_in nothing (a_piece name) (map a_piece (needed_names p)) i).0 in omega (arith, e, h, long, at) in
    let outside : IsIn (a_piece name) (needed_things p) → ⊥ =
    λ i. elim (in_append_cases (a_piece name) (map a_piece (needed_names p)) (map a_cell (filled_cells p)) i) [ inl a ↦ out a | inr b ↦ no_cell name (filled_cells p) b ] in
    let optional : has_name (maybe_names p) name ≡ true =
    elim (cases_Bool (has_name (maybe_names p) name)) [ inl t ↦ t | inr f ↦ absurd (outside (needed_piece p name member (and_from (not (has_name (maybe_names p) name)) (not (has_name (any_names p) name)) (not_from_false (has_name (maybe_names p) name) f) (not_from_false (has_name (any_names p) name) single)))) ] in
    let past = place_past (a_piece name) (needed_things p) (other_things p) outside in
    let inner = place_append (a_piece name) (map a_piece (maybe_names p)) (map a_cell p.maybe_cells ++ flat_map (nodes p) (pairs p)) (in_map a_piece name (maybe_names p) (in_from_name (maybe_names p) name optional)) in
    omega (arith, l, past, inner)

-- ---- cells, by a table

pub numbered_long : (numbers : List ℕ) (k : ℕ) (vs : List Coordinates) → length (numbered numbers k vs) ≡ length numbers
numbered_long numbers k [] = refl
numbered_long numbers k (v ∷ vs) = numbered_long (slice_set numbers (bit_index v) k) (k + 1) vs ∙ length-set numbers (bit_index v) k

numbered_other : (w : Coordinates) (numbers : List ℕ) (k : ℕ) (vs : List Coordinates) → IsInGrid w → AllInGrid vs → (IsIn w vs → ⊥) → item_number_at (numbered numbers k vs) w ≡ item_number_at numbers w
numbered_other w numbers k [] g all no_one = refl
numbered_other w numbers k (v ∷ vs) g all no_one =
    numbered_other w (slice_set numbers (bit_index v) k) (k + 1) vs g (λ u i. all u (inr i)) (λ i. no_one (inr i))
    ∙ get_or-set_other numbers (bit_index v) (bit_index w) k 0 (λ e. no_one (inl (bit_index_same w v g (all v (inl refl)) e)))

numbered_in : (w : Coordinates) (numbers : List ℕ) (k : ℕ) (vs : List Coordinates) → length numbers ≡ 32768 → AllInGrid vs → IsDistinct vs → IsIn w vs
    → item_number_at (numbered numbers k vs) w ≡ k + index_among (a_cell w) (map a_cell vs)
numbered_in w numbers k [] long all d i = absurd i
numbered_in w numbers k (v ∷ vs) long all d i =
    elim (cases_Bool (is_same w v)) [
      | inl t ↦
          let e : w ≡ v = (is_same_Decides w v).0 t in
          let g = all v (inl refl) in
          let lt : bit_index v < length numbers = let b = low v g in omega (arith, b, long) in
          let other = numbered_other v (slice_set numbers (bit_index v) k) (k + 1) vs g (λ u j. all u (inr j)) d.0 in
          let here = get_or-set_same numbers (bit_index v) k 0 lt in
          let z = place_here (a_cell w) (a_cell v) (map a_cell vs) t in
          ap (item_number_at (numbered (slice_set numbers (bit_index v) k) (k + 1) vs)) e ∙ other ∙ here ∙ plus_none k (index_among (a_cell w) (map a_cell (v ∷ vs))) z
      | inr f ↦
          let later : IsIn w vs = elim i [ inl e ↦ let y = (is_same_Decides w v).1 e in cc | inr r ↦ r ] in
          let rest =
          numbered_in w (slice_set numbers (bit_index v) k) (k + 1) vs (length-set numbers (bit_index v) k ∙ long) (λ u j. all u (inr j)) d.1 later in
          let z = place_later (a_cell w) (a_cell v) (map a_cell vs) f in
          omega (arith, rest, z)
    ]
  where
    plus_none : (a b : ℕ) → b ≡ 0 → a ≡ a + b
    plus_none a b h = omega (arith, h)

-- the place among things is that among cells
place_by : (vs : List Coordinates) (v : Coordinates) → index_among (a_cell v) (map a_cell vs) ≡ place_of vs v
place_by [] v = refl
place_by (w ∷ ws) v = ap₂ (λ (b : Bool) (n : ℕ). cond b 0 n) (is_same_symmetric v w) (omega (arith, place_by ws v))

module _ (p : PuzzleValue) (z : IsPuzzle p) where
  pub filled_places : AllInGrid (filled_cells p)
  filled_places v i = z.limits v (in_from_filter (must_fill p) v p.region i).0

  pub maybe_places : AllInGrid p.maybe_cells
  maybe_places v i = z.limits v (in_from_has p.region v (passes (has_cell p.region) p.maybe_cells z.maybe_within v i))

  filled_distinct : IsDistinct (filled_cells p)
  filled_distinct = distinct_filter (must_fill p) p.region (distinct_rising coordinates_total p.region z.rises)

  maybe_distinct : IsDistinct p.maybe_cells
  maybe_distinct = distinct_rising coordinates_total p.maybe_cells z.maybe_rises

  filled_item : (v : Coordinates) → IsIn v (filled_cells p) → thing_item p (a_cell v) ≡ length (needed_names p) + index_among (a_cell v) (map a_cell (filled_cells p)) + 1
  unfolding thing_item
  filled_item v i =
      let must = (in_from_filter (must_fill p) v p.region i).1 in
      let outer = place_append (a_cell v) (needed_things p) (other_things p) (needed_cell p v must) in
      let inner = place_past (a_cell v) (map a_piece (needed_names p)) (map a_cell (filled_cells p)) (no_piece v (needed_names p)) in
      let long : length (map a_piece (needed_names p)) ≡ length (needed_names p) = length-map (needed_names p) a_piece in
      omega (arith, outer, inner, long)

  empty_item : (v : Coordinates) → IsIn v p.maybe_cells → thing_item p (a_cell v) ≡ length (needed_things p) + length (maybe_names p) + index_among (a_cell v) (map a_cell p.maybe_cells) + 1
  unfolding thing_item
  empty_item v i =
      let outside : IsIn (a_cell v) (needed_things p) → ⊥ = λ j.
      elim (needed_cases p (a_cell v) j) [
        | inl n ↦ let m = n.1 in cc
        | inr w ↦
            let same : v ≡ w.0 = let m = w.1 in cc in
            both_ways (has_cell p.maybe_cells v)
            (not-true _ (and_parts (has_cell p.region v) (not (has_cell p.maybe_cells v)) (subst (λ (u : Coordinates). must_fill p u ≡ true) (sym same) w.2)).1) (has_from_in p.maybe_cells v i)
      ] in
      let outer = place_past (a_cell v) (needed_things p) (other_things p) outside in
      let inner = place_past (a_cell v) (map a_piece (maybe_names p)) (map a_cell p.maybe_cells ++ flat_map (nodes p) (pairs p)) (no_piece v (maybe_names p)) in
      let last = place_append (a_cell v) (map a_cell p.maybe_cells) (flat_map (nodes p) (pairs p)) (in_map a_cell v p.maybe_cells i) in
      let long : length (map a_piece (maybe_names p)) ≡ length (maybe_names p) = length-map (maybe_names p) a_piece in
      omega (arith, outer, inner, last, long)

  pub are_numbers : (base : List ℕ) (first second : ℕ) → length base ≡ 32768 → first ≡ length (needed_names p) → second ≡ length (needed_things p) + length (maybe_names p)
      → AreNumbers p (numbered (numbered base (first + 1) (filled_cells p)) (second + 1) p.maybe_cells)
  are_numbers base first second long f s =
      let one = numbered base (first + 1) (filled_cells p) in
      let one_long : length one ≡ 32768 = numbered_long base (first + 1) (filled_cells p) ∙ long in
      record {
        long = numbered_long one (second + 1) p.maybe_cells ∙ one_long;
        same = λ v i.
            elim (cases_Bool (has_cell p.maybe_cells v)) [
              | inl t ↦
                  let here = in_from_has p.maybe_cells v t in
                  let at = numbered_in v one (second + 1) p.maybe_cells one_long maybe_places maybe_distinct here in
                  let item = empty_item v here in
                  omega (arith, at, item, s)
              | inr n ↦
                  let here = in_filter (must_fill p) v p.region i (and_from (has_cell p.region v) (not (has_cell p.maybe_cells v)) (has_from_in p.region v i) (not_from_false (has_cell p.maybe_cells v) n)) in
                  let other = numbered_other v one (second + 1) p.maybe_cells (z.limits v i) maybe_places (λ j. let t = has_from_in p.maybe_cells v j in cc) in
                  let at = numbered_in v base (first + 1) (filled_cells p) long filled_places filled_distinct here in
                  let item = filled_item v here in
                  omega (arith, other, at, item, f)
            ];
      }

-- ---- places, by a table

zero_at : (n k : ℕ) → slice_index_or (replicate n zero) k zero ≡ zero
zero_at zero k = refl
zero_at (suc n) zero = refl
zero_at (suc n) (suc k) = zero_at n k

are_places : (region : List Coordinates) (base : List ℕ) (size : ℕ) → IsShape region → base ≡ replicate size 0 → length base ≡ 32768 → ArePlacesOf region (numbered base 1 region)
are_places region base size s zeros long = record {
  long = numbered_long base 1 region ∙ long;
  same = λ v i.
      let at = numbered_in v base 1 region long s.limits (distinct_rising coordinates_total region s.rises) i in
      let place = place_by region v in
      omega (arith, at, place);
  others = λ v g none.
      numbered_other v base 1 region g s.limits none ∙ ap (λ (b : List ℕ). item_number_at b v) zeros ∙ zero_at size (bit_index v);
}

-- ---- the loops

pub written_numbers : (p : PuzzleValue) → IsPuzzle p → (base one old new all left later : List ℕ) (cells empty : List Coordinates) (first second size : ℕ) → length base ≡ 32768 → length base ≡ size
    → cells ≡ filled_cells p → empty ≡ p.maybe_cells → first ≡ length (needed_names p) → second ≡ length (needed_things p) + length (maybe_names p)
    → one ≡ numbered base (first + 1) cells → old ≡ take size (one ++ left) → new ≡ numbered old (second + 1) empty
    → all ≡ take size (new ++ later) → AreNumbers p all
written_numbers p z base one old new all left later cells empty first second size long sized is_filled is_empty f s made was then whole =
    let one_long : length one ≡ size = ap length made ∙ numbered_long base (first + 1) cells ∙ sized in
    let old_is : old ≡ one = was ∙ take_at one left size one_long in
    let new_long : length new ≡ size = ap length then ∙ numbered_long old (second + 1) empty ∙ ap length old_is ∙ one_long in
    let all_is : all ≡ new = whole ∙ take_at new later size new_long in
    let same : all ≡ numbered (numbered base (first + 1) (filled_cells p)) (second + 1) p.maybe_cells =
    all_is ∙ then ∙ ap (λ (ns : List ℕ). numbered ns (second + 1) empty) (old_is ∙ made ∙ ap (numbered base (first + 1)) is_filled)
    ∙ ap (numbered (numbered base (first + 1) (filled_cells p)) (second + 1)) is_empty in
    subst (AreNumbers p) (sym same) (are_numbers p z base first second long f s)

pub written_places : (region : List Coordinates) (base one all left : List ℕ) (count size : ℕ) → IsShape region → base ≡ replicate count 0 → length base ≡ 32768 → length base ≡ size
    → one ≡ numbered base (0 + 1) region → all ≡ take size (one ++ left) → ArePlacesOf region all
written_places region base one all left count size s zeros long sized made whole =
    let one_long : length one ≡ size = ap length made ∙ numbered_long base (0 + 1) region ∙ sized in
    let same : all ≡ numbered base 1 region = whole ∙ take_at one left size one_long ∙ made in
    subst (ArePlacesOf region) (sym same) (are_places region base count s zeros long)

-- the places of a puzzle are those of its region
pub places_by_region : (p : PuzzleValue) (places : List ℕ) → ArePlacesOf p.region places → ArePlaces p places
places_by_region p places are = record { long = are.long; same = are.same }

-- ---- in one tree

in_tree : (n h a m : ℕ) → a ≤ h → h < a + m → index_among (a_node n h) (map (a_node n) (range_with_len a m)) ≡ h - a
in_tree n h a zero low high = absurd (omega arith)
in_tree n h a (suc m) low high =
    elim (cases_eq h a) [
      | inl e ↦
          let here = place_here (a_node n h) (a_node n a) (map (a_node n) (range_with_len (a + 1) m)) (and_from (n == n) (h == a) (eq-eqb n n refl) (eq-eqb h a e)) in
          omega (arith, here, e)
      | inr d ↦
          let later = place_later (a_node n h) (a_node n a) (map (a_node n) (range_with_len (a + 1) m)) (ap (λ b. (n == n) && b) (ne_eqb h a d) ∙ false_and (n == n)) in
          let rest = in_tree n h (a + 1) m (omega (arith, d)) (omega (arith, high)) in
          omega (arith, later, rest, d)
    ]
  where
    false_and : (b : Bool) → (b && false) ≡ false
    false_and true = refl
    false_and false = refl

tree_long : (p : PuzzleValue) (q : ℕ × ℕ) → length (nodes p q) ≡ 2 ^ tree_levels p - 1
tree_long p q = length-map (range_with_len 1 (2 ^ tree_levels p - 1)) (a_node (q.0)) ∙ length-range_with_len 1 (2 ^ tree_levels p - 1)

-- a tree has nodes of its own first name alone
of_tree : (p : PuzzleValue) (q : ℕ × ℕ) (n h : ℕ) → IsIn (a_node n h) (nodes p q) → n ≡ q.0
of_tree p q n h i = let m = in_from_map (a_node (q.0)) (a_node n h) (range_with_len 1 (2 ^ tree_levels p - 1)) i in let e = m.2 in cc

-- ---- in the trees of some pairs with different first names

in_trees : (p : PuzzleValue) (ps : List (ℕ × ℕ)) → ((q r : ℕ × ℕ) → IsIn q ps → IsIn r ps → q.0 ≡ r.0 → q ≡ r) → IsDistinct ps → (d : ℕ × ℕ) (k h : ℕ) → k < length ps → 0 < h → h < 2 ^ tree_levels p
    → index_among (a_node ((get_or ps k d).0) h) (flat_map (nodes p) ps) ≡ k * (2 ^ tree_levels p - 1) + (h - 1)
in_trees p [] one dis d k h lt some within = absurd (omega arith)
in_trees p (q ∷ ps) one dis d zero h lt some within =
    let here : IsIn (a_node (q.0) h) (nodes p q) = in_map (a_node (q.0)) h (range_with_len 1 (2 ^ tree_levels p - 1)) (in_to_range h 1 (2 ^ tree_levels p - 1) some (omega arith)) in
    let first = place_append (a_node (q.0) h) (nodes p q) (flat_map (nodes p) ps) here in
    let at = in_tree (q.0) h 1 (2 ^ tree_levels p - 1) some (omega arith) in
    omega (arith, first, at)
in_trees p (q ∷ ps) one dis d (suc k) h lt some within =
    let r = get_or ps k d in
    let member = in_at ps k d (omega arith) in
    let out : IsIn (a_node (r.0) h) (nodes p q) → ⊥ = λ i. dis.0 (subst (λ (x : ℕ × ℕ). IsIn x ps) (one r q (inr member) (inl refl) (of_tree p q (r.0) h i)) member) in
    let past = place_past (a_node (r.0) h) (nodes p q) (flat_map (nodes p) ps) out in
    let long = tree_long p q in
    let rest = in_trees p ps (λ x y i j. one x y (inr i) (inr j)) dis.1 d k h (omega arith) some within in
    omega (arith, past, long, rest)

-- ---- a node's item

module _ (p : PuzzleValue) (z : IsPuzzle p) where
  not_needed : (n h : ℕ) → IsIn (a_node n h) (needed_things p) → ⊥
  not_needed n h i = elim (needed_cases p (a_node n h) i) [ inl m ↦ let e = m.1 in cc | inr v ↦ let e = v.1 in cc ]

  not_piece : (n h : ℕ) → IsIn (a_node n h) (map a_piece (maybe_names p)) → ⊥
  not_piece n h i = let m = in_from_map a_piece (a_node n h) (maybe_names p) i in let e = m.2 in cc

  not_cell : (n h : ℕ) → IsIn (a_node n h) (map a_cell p.maybe_cells) → ⊥
  not_cell n h i = let v = in_from_map a_cell (a_node n h) p.maybe_cells i in let e = v.2 in cc

  pub node_item : (d : ℕ × ℕ) (k h : ℕ) → k < length (pairs p) → 0 < h → h < 2 ^ tree_levels p
      → thing_item p (a_node ((get_or (pairs p) k d).0) h) ≡ before_nodes p + k * (2 ^ tree_levels p - 1) + h
  unfolding thing_item
  node_item d k h lt some within =
      let n = (get_or (pairs p) k d).0 in
      let trees = flat_map (nodes p) (pairs p) in
      let a = place_past (a_node n h) (needed_things p) (other_things p) (not_needed n h) in
      let b = place_past (a_node n h) (map a_piece (maybe_names p)) (map a_cell p.maybe_cells ++ trees) (not_piece n h) in
      let c = place_past (a_node n h) (map a_cell p.maybe_cells) trees (not_cell n h) in
      let e = in_trees p (pairs p) (one_pair p z) (pairs_distinct p z) d k h lt some within in
      let f = length-map (maybe_names p) a_piece in
      let g = length-map p.maybe_cells a_cell in
      omega (arith, a, b, c, e, f, g)

  -- the items of the nodes that a leaf reaches are what the code adds
  pub right_items : (d : ℕ × ℕ) (k n : ℕ) → k < length (pairs p) → IsBelow (tree_levels p) n
      → map (thing_item p) (map (a_node ((get_or (pairs p) k d).0)) (from_right (tree_levels p) n)) ≡ map (λ h. (before_nodes p + k * (2 ^ tree_levels p - 1)) + h) (from_right (tree_levels p) n)
  right_items d k n lt b =
      map-map (thing_item p) (a_node ((get_or (pairs p) k d).0)) (from_right (tree_levels p) n)
      ∙ same_map _ _ (from_right (tree_levels p) n) (λ h i. node_item d k h lt (right_some (tree_levels p) n h b i) (right_above (tree_levels p) n h b i))

  pub left_items : (d : ℕ × ℕ) (k n : ℕ) → k < length (pairs p) → IsBelow (tree_levels p) n
      → map (thing_item p) (map (a_node ((get_or (pairs p) k d).0)) (from_left (tree_levels p) n)) ≡ map (λ h. (before_nodes p + k * (2 ^ tree_levels p - 1)) + h) (from_left (tree_levels p) n)
  left_items d k n lt b =
      map-map (thing_item p) (a_node ((get_or (pairs p) k d).0)) (from_left (tree_levels p) n)
      ∙ same_map _ _ (from_left (tree_levels p) n) (λ h i. node_item d k h lt (left_some (tree_levels p) n h b i) (left_above (tree_levels p) n h b i))
