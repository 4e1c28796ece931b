-- The options that the numbers of items make, item by item: the piece, the cells, and the nodes of the trees of equal pieces.
use Rattle.std.proofs.Common.{◌≡◌, ℕ, zero, suc, ◌+◌, ◌-◌, ◌*◌, ◌^◌, ◌<◌, ◌≤◌, ◌==◌, List, [], ◌∷◌, ◌++◌, map, flat_map, length, get_or, take, Bool, true, false, ◌&&◌, refl, sym, ap, ap₂, subst, ◌∙◌, arith, append_assoc}
use Rattle.std.specs.List.{list_all, range_with_len}
use Rattle.std.proofs.Math.Nat.{mul-le-mul_right}
use Rattle.std.proofs.lemmas.Grind.{flat_map-append}
use Rattle.std.proofs.lemmas.Bool.{and_parts}
use Rattle.std.proofs.lemmas.List.{get_or_default, map-append, length-append}
use Rattle.poly_cells.specs.Coordinates.{Coordinates, coordinates}
use Rattle.poly_cells.specs.Sets.{IsIn}
use Rattle.poly_cells.proofs.SetLemmas.{in_map, in_at, take_next}
use Rattle.poly_cells.proofs.MemberLemmas.{all_pass, passes}
use Rattle.poly_texts.specs.Words.{is_name}
use Rattle.poly_texts.specs.Puzzle.{PuzzleValue, IsPuzzle, names_of, has_name, is_needed, are_new, pieces_of, equal_names}
use Rattle.poly_texts.proofs.NameLemmas.{pieces_few, pieces_named}
use Rattle.poly_texts.proofs.EqualLemmas.{equal_new, equal_needed}
use Rattle.poly_place.specs.Turns.{from_right, from_left}
use Rattle.poly_place.specs.Packings.{ChoiceValue, every_choice, IsPlaced, Thing, a_cell, a_node, neighbours, pairs, first_cell, place_of, things, thing_item, levels_for, tree_levels, nodes_by, leaf_of, given, thing_name, node_word}
use Rattle.poly_place.specs.Compiled.{AreNumbers, ArePlaces, item_number_at, before_nodes, numbers_if, pair_items}
use Rattle.poly_place.specs.Tables.{bit_index}
use Rattle.poly_place.proofs.DistinctLemmas.{in_from_name}
use Rattle.poly_place.proofs.PairLemmas.{all_of}
use Rattle.poly_place.proofs.TurnLemmas.{IsBelow}
use Rattle.poly_place.proofs.StandLemmas.{least_in, least_inside, leaf_placed}
use Rattle.poly_place.proofs.PlacedLemmas.{has_shapes, placed_in}
use Rattle.poly_place.proofs.CountLemmas.{are_few, needed_count, things_count}
use Rattle.poly_place.proofs.CompiledLemmas.{few_levels}
use Rattle.poly_place.proofs.NumberLemmas.{right_items, left_items}

-- ---- how many

-- the pairs of groups are fewer than their names
neighbours_few : (ns : List ℕ) → length (neighbours ns) ≤ length ns
neighbours_few [] = omega arith
neighbours_few (m ∷ []) = omega arith
neighbours_few (m ∷ n ∷ ns) = let rest = neighbours_few (n ∷ ns) in omega (arith, rest)

groups_few : (groups : List (List ℕ)) → length (flat_map neighbours groups) ≤ length (all_of groups)
groups_few [] = omega arith
groups_few (g ∷ gs) =
    let first = neighbours_few g in
    let rest = groups_few gs in
    let all = length-append (neighbours g) (flat_map neighbours gs) in
    let names = length-append g (all_of gs) in
    omega (arith, first, rest, all, names)

bare : List ℕ → List (ℕ × List Coordinates)
bare ns = map (λ (n : ℕ). (n, [])) ns

bare_names : (ns : List ℕ) → names_of (bare ns) ≡ ns
unfolding bare
bare_names [] = refl
bare_names (n ∷ ns) = ap (λ (ms : List ℕ). n ∷ ms) (bare_names ns)

bare_long : (ns : List ℕ) → length (bare ns) ≡ length ns
unfolding bare
bare_long [] = refl
bare_long (n ∷ ns) = ap (λ (k : ℕ). suc k) (bare_long ns)

pub pairs_few : (p : PuzzleValue) → IsPuzzle p → length (pairs p) ≤ 62
pairs_few p z =
    let named : list_all is_name (all_of (equal_names p)) ≡ true =
    all_pass is_name (all_of (equal_names p)) (λ n i.
    let known = passes (λ (m : ℕ). has_name (names_of (pieces_of p)) m && is_needed p m) (all_of (equal_names p)) (equal_needed p z) n i in
    passes is_name (names_of (pieces_of p)) (pieces_named p z) n (in_from_name (names_of (pieces_of p)) n (and_parts (has_name (names_of (pieces_of p)) n) (is_needed p n) known).0)) in
    let few = pieces_few (bare (all_of (equal_names p))) (subst (λ (ns : List ℕ). list_all is_name ns ≡ true) (sym (bare_names (all_of (equal_names p)))) named)
    (subst (λ (ns : List ℕ). are_new ns ≡ true) (sym (bare_names (all_of (equal_names p)))) (equal_new p z)) in
    let same = bare_long (all_of (equal_names p)) in
    let less = groups_few (equal_names p) in
    omega (arith, few, same, less)

pub leaves_few : (p : PuzzleValue) → 2 ^ tree_levels p ≤ 4096
unfolding tree_levels
leaves_few p = few_levels (length p.region)

pub before_few : (p : PuzzleValue) → IsPuzzle p → before_nodes p ≤ 8316
before_few p z =
    let few = are_few p z in
    let count = needed_count p in
    omega arith

product_few : (k m : ℕ) → k ≤ 62 → m ≤ 4095 → k * m ≤ 253890
product_few k m a b =
    let one : k * m ≤ 62 * m = mul-le-mul_right m a in
    omega (arith, one)

-- so many items come before the nodes of a pair's tree
pub before_low : (p : PuzzleValue) → IsPuzzle p → (k : ℕ) → k ≤ length (pairs p) → before_nodes p + k * (2 ^ tree_levels p - 1) ≤ 262206
before_low p z k le =
    let few = pairs_few p z in
    let leaves = leaves_few p in
    let before = before_few p z in
    let product = product_few k (2 ^ tree_levels p - 1) (omega (arith, few, le)) (omega (arith, leaves)) in
    omega (arith, before, product)

pub one_tree_more : (before k m : ℕ) → before + k * m + m ≡ before + (k + 1) * m
one_tree_more before k m = omega arith

-- how many items there are
pub record AreCounted (p : PuzzleValue) (n leaves before : ℕ) : Type 0 where
  pub product : n * (leaves - 1) ≤ 253890
  pub before_low : before ≤ 8316
  pub all : before + n * (leaves - 1) ≡ length (things p)

pub are_counted : (p : PuzzleValue) → IsPuzzle p → (n leaves before : ℕ) → n ≡ length (pairs p) → leaves ≡ 2 ^ tree_levels p → before ≡ before_nodes p → AreCounted p n leaves before
are_counted p z n leaves before a b e =
    let few = pairs_few p z in
    let low = leaves_few p in
    record {
      product = product_few n (leaves - 1) (omega (arith, a, few)) (omega (arith, b, low));
      before_low = omega (arith, e, before_few p z);
      all = ap₂ (λ (x y : ℕ). before + x * (y - 1)) a b ∙ ap (λ (x : ℕ). x + length (pairs p) * (2 ^ tree_levels p - 1)) e ∙ sym (things_count p);
    }

-- the leaf of a choice is low
pub leaf_low : (p : PuzzleValue) → IsPuzzle p → (c : ChoiceValue) → IsIn c (every_choice p) → leaf_of p c < 8192
leaf_low p z c i =
    let b = leaf_placed p (has_shapes p z) c (placed_in p (has_shapes p z) c i) in
    let high = b.high in
    let few = leaves_few p in
    omega (arith, high, few)

pub levels_are : (p : PuzzleValue) → levels_for (length p.region) ≡ tree_levels p
unfolding tree_levels
levels_are p = refl

-- ---- the cells, one by one

-- what stands in a table at the bit of a cell
pub table_at : (table : List ℕ) (v : Coordinates) (x y z k n d : ℕ) → length table ≡ 32768 → x ≡ v.x → y ≡ v.y → z ≡ v.z → x ≤ 31 → y ≤ 31 → z ≤ 31 → k ≡ bit_index (coordinates x y z) → n ≡ get_or table k d
    → n ≡ item_number_at table v
table_at table v x y z k n d long a b c e f g is at =
    let same : k ≡ bit_index v = omega (arith, is, a, b, c) in
    let lt : bit_index v < length table = omega (arith, a, b, c, e, f, g, long) in
    at ∙ ap (λ (i : ℕ). get_or table i d) same ∙ get_or_default table (bit_index v) d 0 lt

pub cell_more : (p : PuzzleValue) (numbers : List ℕ) → AreNumbers p numbers → (vs : List Coordinates) → ((v : Coordinates) → IsIn v vs → IsIn v p.region) → (i : ℕ) (v : Coordinates) (x : ℕ) (start before after : List ℕ)
    → i < length vs → v ≡ get_or vs i v → x ≡ item_number_at numbers v → after ≡ before ++ x ∷ [] → before ≡ start ++ map (thing_item p) (map a_cell (take i vs))
    → after ≡ start ++ map (thing_item p) (map a_cell (take (i + 1) vs))
cell_more p numbers are vs inside i v x start before after lt is at push so =
    let here : IsIn v vs = subst (λ (w : Coordinates). IsIn w vs) (sym is) (in_at vs i v lt) in
    push ∙ ap₂ (λ (ys : List ℕ) (k : ℕ). ys ++ k ∷ []) so (at ∙ are.same v (inside v here))
    ∙ append_assoc start (map (thing_item p) (map a_cell (take i vs))) (thing_item p (a_cell v) ∷ [])
    ∙ ap (λ (ys : List ℕ). start ++ ys)
    (sym (map-append (thing_item p) (map a_cell (take i vs)) (a_cell v ∷ []))
    ∙ ap (map (thing_item p)) (sym (ap (map a_cell) (take_next vs i v lt is) ∙ map-append a_cell (take i vs) (v ∷ []))))

-- ---- the nodes of one pair

mapped_given : (f : Thing → ℕ) (b : Bool) (ts : List Thing) → map f (given b ts) ≡ numbers_if b (map f ts)
mapped_given f true ts = refl
mapped_given f false ts = refl

pub pair_same : (p : PuzzleValue) (z : IsPuzzle p) (k : ℕ) (c : ChoiceValue) → IsBelow (tree_levels p) (leaf_of p c) → k < length (pairs p) → (q : ℕ × ℕ) → q ≡ get_or (pairs p) k q → (before : ℕ)
    → before ≡ before_nodes p + k * (2 ^ tree_levels p - 1) → pair_items c.name q before (tree_levels p) (leaf_of p c) ≡ map (thing_item p) (nodes_by p c q)
pair_same p z k c b lt q is before so =
    let rights = from_right (tree_levels p) (leaf_of p c) in
    let lefts = from_left (tree_levels p) (leaf_of p c) in
    let right : map (thing_item p) (map (a_node (q.0)) rights) ≡ map (λ h. before + h) rights =
    subst (λ (x : ℕ × ℕ). map (thing_item p) (map (a_node (x.0)) rights) ≡ map (λ h. (before_nodes p + k * (2 ^ tree_levels p - 1)) + h) rights) (sym is) (right_items p z q k (leaf_of p c) lt b)
    ∙ ap (λ (s : ℕ). map (λ h. s + h) rights) (sym so) in
    let left : map (thing_item p) (map (a_node (q.0)) lefts) ≡ map (λ h. before + h) lefts =
    subst (λ (x : ℕ × ℕ). map (thing_item p) (map (a_node (x.0)) lefts) ≡ map (λ h. (before_nodes p + k * (2 ^ tree_levels p - 1)) + h) lefts) (sym is) (left_items p z q k (leaf_of p c) lt b)
    ∙ ap (λ (s : ℕ). map (λ h. s + h) lefts) (sym so) in
    sym (map-append (thing_item p) (given (c.name == q.0) (map (a_node (q.0)) rights)) (given (c.name == q.1) (map (a_node (q.0)) lefts))
    ∙ ap₂ (λ (xs ys : List ℕ). xs ++ ys)
    (mapped_given (thing_item p) (c.name == q.0) (map (a_node (q.0)) rights) ∙ ap (numbers_if (c.name == q.0)) right)
    (mapped_given (thing_item p) (c.name == q.1) (map (a_node (q.0)) lefts) ∙ ap (numbers_if (c.name == q.1)) left))

-- ---- the nodes of all pairs, one by one

-- one more of a list's lists, mapped
pub flat_more : {X A B : Type 0} (g : A → B) (f : X → List A) (xs : List X) (i : ℕ) (x : X) (start before after more : List B) → i < length xs → x ≡ get_or xs i x → after ≡ before ++ more
    → more ≡ map g (f x) → before ≡ start ++ map g (flat_map f (take i xs)) → after ≡ start ++ map g (flat_map f (take (i + 1) xs))
flat_more {X} {A} {B} g f xs i x start before after more lt is push made so =
    push ∙ ap₂ (λ (ys zs : List B). ys ++ zs) so made
    ∙ append_assoc start (map g (flat_map f (take i xs))) (map g (f x))
    ∙ ap (λ (ys : List B). start ++ ys)
    (sym (map-append g (flat_map f (take i xs)) (f x))
    ∙ ap (map g) (sym (ap (flat_map f) (take_next xs i x lt is) ∙ flat_map-append f (take i xs) (x ∷ []) ∙ ap (λ (ys : List A). flat_map f (take i xs) ++ ys) (append_none (f x)))))
  where
    append_none : (ys : List A) → ys ++ [] ≡ ys
    append_none [] = refl
    append_none (y ∷ ys) = ap (λ (zs : List A). y ∷ zs) (append_none ys)

-- ---- the choice at hand

pub choice_placed : (p : PuzzleValue) → IsPuzzle p → (c : ChoiceValue) → IsIn c (every_choice p) → IsPlaced p c
choice_placed p z c i = placed_in p (has_shapes p z) c i

pub choice_leaf : (p : PuzzleValue) → IsPuzzle p → (c : ChoiceValue) → IsIn c (every_choice p) → IsBelow (tree_levels p) (leaf_of p c)
choice_leaf p z c i = leaf_placed p (has_shapes p z) c (placed_in p (has_shapes p z) c i)

pub choice_member : (p : PuzzleValue) → IsPuzzle p → (c : ChoiceValue) → IsIn c (every_choice p) → IsIn c.name (names_of (pieces_of p))
choice_member p z c i = let q = choice_placed p z c i in in_map (λ (n : ℕ × List Coordinates). n.0) (c.name, q.piece) (pieces_of p) q.named

some_from_in : {X : Type 0} (x : X) (xs : List X) → IsIn x xs → 0 < length xs
some_from_in x [] i = absurd i
some_from_in x (y ∷ ys) i = omega arith

pub choice_some : (p : PuzzleValue) → IsPuzzle p → (c : ChoiceValue) → IsIn c (every_choice p) → 0 < length c.cells
choice_some p z c i = some_from_in (first_cell c.cells) c.cells (least_in p (has_shapes p z) c (choice_placed p z c i))

-- the first of some cells is the least
pub first_is : (vs : List Coordinates) (v d : Coordinates) → 0 < length vs → v ≡ get_or vs 0 d → v ≡ first_cell vs
first_is [] v d some is = absurd (omega arith)
first_is (w ∷ ws) v d some is = is

pub leaf_is : (p : PuzzleValue) → IsPuzzle p → (c : ChoiceValue) → IsIn c (every_choice p) → (places : List ℕ) → ArePlaces p places → (v : Coordinates) (leaves : ℕ) → v ≡ first_cell c.cells → leaves ≡ 2 ^ tree_levels p
    → leaves + item_number_at places v ≡ leaf_of p c + 1
leaf_is p z c i places are v leaves is so =
    let q = choice_placed p z c i in
    let at : item_number_at places v ≡ place_of p.region v + 1 = are.same v (subst (λ (w : Coordinates). IsIn w p.region) (sym is) (least_inside p (has_shapes p z) c q)) in
    let same : place_of p.region v ≡ place_of p.region (first_cell c.cells) = ap (place_of p.region) is in
    omega (arith, at, same, so)

-- ---- names of nodes, one by one

pub node_more : (n i : ℕ) (texts start before : List (List ℕ)) → 0 < i → texts ≡ before ++ node_word n i ∷ [] → before ≡ start ++ map thing_name (map (a_node n) (range_with_len 1 (i - 1)))
    → texts ≡ start ++ map thing_name (map (a_node n) (range_with_len 1 (i + 1 - 1)))
node_more n i texts start before some push so =
    push ∙ ap (λ (xs : List (List ℕ)). xs ++ node_word n i ∷ []) so
    ∙ append_assoc start (map thing_name (map (a_node n) (range_with_len 1 (i - 1)))) (node_word n i ∷ [])
    ∙ ap (λ (xs : List (List ℕ)). start ++ xs)
    (sym (map-append thing_name (map (a_node n) (range_with_len 1 (i - 1))) (a_node n i ∷ []))
    ∙ ap (map thing_name) (sym (map-append (a_node n) (range_with_len 1 (i - 1)) (i ∷ [])) ∙ ap (map (a_node n)) (sym (grown i some))))
  where
    range_last : (a m : ℕ) → range_with_len a (m + 1) ≡ range_with_len a m ++ (a + m) ∷ []
    range_last a zero = let e : a ≡ a + 0 = omega arith in ap (λ (k : ℕ). k ∷ []) e
    range_last a (suc m) =
        let e : a + 1 + m ≡ a + suc m = omega arith in
        let f : suc m + 1 ≡ suc (m + 1) = omega arith in
        ap (range_with_len a) f ∙ ap (λ (ks : List ℕ). a ∷ ks) (range_last (a + 1) m ∙ ap (λ (k : ℕ). range_with_len (a + 1) m ++ k ∷ []) e)

    grown : (i : ℕ) → 0 < i → range_with_len 1 (i + 1 - 1) ≡ range_with_len 1 (i - 1) ++ i ∷ []
    grown i some =
        let one : i + 1 - 1 ≡ i - 1 + 1 = omega arith in
        let other : 1 + (i - 1) ≡ i = omega arith in
        ap (range_with_len 1) one ∙ range_last 1 (i - 1) ∙ ap (λ (k : ℕ). range_with_len 1 (i - 1) ++ k ∷ []) other
