-- How many things a puzzle has at most, and lists made by a test, one by one.
use Rattle.std.proofs.Common.{◌-◌, ◌*◌, ◌^◌, flat_map, ◌≡◌, ℕ, ◌+◌, ◌<◌, ◌≤◌, List, [], ◌∷◌, ◌++◌, map, filter, length, get_or, take, Bool, true, false, cond, sym, ap, subst, ◌∙◌, Some, slice_get, append-nil, arith}
use Rattle.std.proofs.lemmas.List.Elements.{filter_more}
use Rattle.std.proofs.lemmas.Option.{slice_get_within, get_or_from_slice_get}
use Rattle.std.specs.List.{range_with_len}
use Rattle.std.proofs.lemmas.List.FromFn.{length-range_with_len}
use Rattle.std.proofs.lemmas.List.{get_or-map, length-append, length-map}
use Rattle.poly_cells.specs.Coordinates.{Coordinates, coordinates_cmp}
use Rattle.poly_cells.specs.Sets.{IsIn}
use Rattle.poly_cells.proofs.CoordinateLemmas.{coordinates_total}
use Rattle.poly_cells.proofs.SetLemmas.{in_at, same_members}
use Rattle.poly_cells.proofs.CellTestLemmas.{in_from_has, has_from_in}
use Rattle.poly_cells.specs.CellTests.{has_cell}
use Rattle.poly_texts.specs.Puzzle.{PuzzleValue, IsPuzzle, names_of, has_name, is_needed, pieces_of, maybe_names}
use Rattle.poly_place.specs.Packings.{must_fill, needed_things, other_things, things, nodes, pairs, tree_levels, a_piece, a_cell, a_node}
use Rattle.poly_place.specs.Compiled.{needed_names, filled_cells, before_nodes}
use Rattle.poly_cells.proofs.MemberLemmas.{passes, in_from_filter, in_filter}
use Rattle.poly_texts.proofs.NameLemmas.{maybe_in_order}
use Rattle.std.proofs.lemmas.List.Sums.{length-filter, count_by-le-length}
use Rattle.std.proofs.lemmas.List.Kept.{IsStrictlySortedBy-filter}

-- ---- a filtered list, one by one

pub one_kept : {X : Type 0} (test : X → Bool) (xs : List X) (i : ℕ) (x : X) (before after : List X) → i < length xs → x ≡ get_or xs i x → test x ≡ true → after ≡ before ++ x ∷ []
    → before ≡ filter test (take i xs) → after ≡ filter test (take (i + 1) xs)
one_kept {X} test xs i x before after lt is t push so =
    push ∙ ap (λ (ys : List X). ys ++ x ∷ []) so
    ∙ sym (filter_more test xs i x lt ∙ ap (λ (y : X). filter test (take i xs) ++ cond (test y) (y ∷ []) []) (sym is) ∙ ap (λ b. filter test (take i xs) ++ cond b (x ∷ []) []) t)

pub one_left : {X : Type 0} (test : X → Bool) (xs : List X) (i : ℕ) (x : X) (before : List X) → i < length xs → x ≡ get_or xs i x → test x ≡ false
    → before ≡ filter test (take i xs) → before ≡ filter test (take (i + 1) xs)
one_left {X} test xs i x before lt is f so =
    so
    ∙ sym (filter_more test xs i x lt ∙ ap (λ (y : X). filter test (take i xs) ++ cond (test y) (y ∷ []) []) (sym is) ∙ ap (λ b. filter test (take i xs) ++ cond b (x ∷ []) []) f
    ∙ append-nil (filter test (take i xs)))

-- ---- an entry of the pieces

pub record IsEntry (pieces : List (ℕ × List Coordinates)) (k name : ℕ) (piece : List Coordinates) : Type 0 where
  pub lt : k < length (names_of pieces)
  pub is : name ≡ get_or (names_of pieces) k name
  pub low : k < length pieces
  pub at : (name, piece) ≡ get_or pieces k (name, piece)
  pub member : IsIn (name, piece) pieces

pub entry_is : (pieces : List (ℕ × List Coordinates)) (k name : ℕ) (piece : List Coordinates) → slice_get pieces k ≡ Some (name, piece) → IsEntry pieces k name piece
entry_is pieces k name piece h =
    let lt = slice_get_within pieces k (name, piece) h in
    let at = get_or_from_slice_get pieces k (name, piece) (name, piece) h in
    record {
      lt = subst (λ (n : ℕ). k < n) (sym (length-map pieces (λ (p : ℕ × List Coordinates). p.0))) lt;
      is = sym (get_or-map (λ (p : ℕ × List Coordinates). p.0) pieces k (name, piece) name lt ∙ ap (λ (p : ℕ × List Coordinates). p.0) at);
      low = lt;
      at = sym at;
      member = subst (λ (p : ℕ × List Coordinates). IsIn p pieces) at (in_at pieces k (name, piece) lt);
    }

-- ---- how many

pub filter_short : {X : Type 0} (test : X → Bool) (xs : List X) → length (filter test xs) ≤ length xs
filter_short test xs = rw length-filter (count_by-le-length test xs)

pub record AreFew (p : PuzzleValue) : Type 0 where
  pub pieces : length (needed_names p) ≤ 62
  pub cells : length (filled_cells p) ≤ 4096
  pub maybe_pieces : length (maybe_names p) ≤ 62
  pub maybe_cells : length p.maybe_cells ≤ 4096

names_few : (p : PuzzleValue) → IsPuzzle p → length (names_of (pieces_of p)) ≤ 62
names_few p z = let few = z.few_pieces in subst (λ (n : ℕ). n ≤ 62) (sym (length-map (pieces_of p) (λ (q : ℕ × List Coordinates). q.0))) few

maybe_is : (p : PuzzleValue) → IsPuzzle p → p.maybe_cells ≡ filter (has_cell p.maybe_cells) p.region
maybe_is p z =
    same_members coordinates_total p.maybe_cells (filter (has_cell p.maybe_cells) p.region) z.maybe_rises (IsStrictlySortedBy-filter coordinates_cmp (has_cell p.maybe_cells) p.region z.rises)
    (λ v i. in_filter (has_cell p.maybe_cells) v p.region (in_from_has p.region v (passes (has_cell p.region) p.maybe_cells z.maybe_within v i)) (has_from_in p.maybe_cells v i))
    (λ v i. in_from_has p.maybe_cells v (in_from_filter (has_cell p.maybe_cells) v p.region i).1)

pub are_few : (p : PuzzleValue) → IsPuzzle p → AreFew p
are_few p z =
    let names = names_few p z in
    let a = filter_short (is_needed p) (names_of (pieces_of p)) in
    let b = filter_short (must_fill p) p.region in
    let c = filter_short (has_name (maybe_names p)) (names_of (pieces_of p)) in
    let d = filter_short (has_cell p.maybe_cells) p.region in
    let e : length (maybe_names p) ≡ length (filter (has_name (maybe_names p)) (names_of (pieces_of p))) = ap length (maybe_in_order p z) in
    let f : length p.maybe_cells ≡ length (filter (has_cell p.maybe_cells) p.region) = ap length (maybe_is p z) in
    record { pieces = omega (arith, a, names); cells = omega (arith, b); maybe_pieces = omega (arith, c, e, names); maybe_cells = omega (arith, d, f) }

pub needed_count : (p : PuzzleValue) → length (needed_things p) ≡ length (needed_names p) + length (filled_cells p)
needed_count p =
    let all = length-append (map a_piece (needed_names p)) (map a_cell (filled_cells p)) in
    let first = length-map (needed_names p) a_piece in
    let second = length-map (filled_cells p) a_cell in
    omega (arith, all, first, second)

pub things_count : (p : PuzzleValue) → length (things p) ≡ before_nodes p + length (pairs p) * (2 ^ tree_levels p - 1)
things_count p =
    let trees = flat_map (nodes p) (pairs p) in
    let all = length-append (needed_things p) (other_things p) in
    let later = length-append (map a_piece (maybe_names p)) (map a_cell p.maybe_cells ++ trees) in
    let last = length-append (map a_cell p.maybe_cells) trees in
    let first = length-map (maybe_names p) a_piece in
    let second = length-map p.maybe_cells a_cell in
    let third = trees_long (pairs p) in
    omega (arith, all, later, last, first, second, third)
  where
    trees_long : (ps : List (ℕ × ℕ)) → length (flat_map (nodes p) ps) ≡ length ps * (2 ^ tree_levels p - 1)
    trees_long [] = omega arith
    trees_long (q ∷ qs) =
        let all = length-append (nodes p q) (flat_map (nodes p) qs) in
        let one = length-map (range_with_len 1 (2 ^ tree_levels p - 1)) (a_node (q.0)) in
        let many = length-range_with_len 1 (2 ^ tree_levels p - 1) in
        let rest = trees_long qs in
        omega (arith, all, one, many, rest)
