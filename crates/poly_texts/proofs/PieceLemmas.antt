-- The cells of pieces and of the region are within the limits, pieces lie at the origin, and what lines say of pieces are kinds.
use Rattle.std.proofs.Common.{◌++◌, ◌≡◌, ◌<◌, ◌≤◌, inl, inr, ℕ, ◌+◌, List, [], ◌∷◌, flat_map, length, true, not, ◌&&◌, nat_lt, nat_le, refl, sym, ap, subst, arith}
use Rattle.std.specs.List.{list_all, range_with_len}
use Rattle.std.proofs.lemmas.Bool.{and_parts}
use Rattle.std.proofs.lemmas.Bool.Decides.{nat_tests}
use Rattle.std.proofs.lemmas.List.{length-map}
use Rattle.std.specs.declared.cmp.Ordering.{Ordering}
use Rattle.std.specs.declared.cmp.Ordering.TheVariants.{Less, Equal, Greater}
use Rattle.poly_cells.proofs.MemberLemmas.{in_from_flat_map, in_from_filter, in_from_range, passes}
use Rattle.poly_cells.specs.Coordinates.{Coordinates, IsInGrid, coordinates, coordinates_cmp}
use Rattle.poly_cells.specs.Sets.{IsIn, in_order, insert_in, by_order}
use Rattle.poly_cells.specs.Shapes.{AllInGrid, corner, moved_back, normal}
use Rattle.poly_cells.proofs.SetLemmas.{in_from_map, in_from_order, in_order_rises}
use Rattle.poly_cells.proofs.CoordinateLemmas.{coordinates_total}
use Rattle.poly_cells.proofs.ShapeLemmas.{normal_is_shape}
use Rattle.poly_cells.proofs.ImageLemmas.{normal_is}
use Rattle.poly_cells.specs.CellTests.{has_cell, is_in_grid}
use Rattle.poly_cells.proofs.CellTestLemmas.{all_in_grid_from}
use Rattle.poly_texts.specs.Limits.{most_piece_cells, most_size}
use Rattle.poly_texts.specs.Cells.{without, row, layer, box_cells}
use Rattle.poly_texts.specs.Usages.{are_so_many, may_spare}
use Rattle.poly_texts.specs.Words.{is_name}
use Rattle.poly_texts.specs.Kinds.{IsPiece, IsKind}
use Rattle.poly_texts.specs.Puzzle.{symbols_in, AreKinds}
use Rattle.poly_texts.specs.Reading.{kept_shape}
use Rattle.poly_texts.specs.Grammar.{Line, kind, box, cells, cut, are_in_grid, are_apart, are_a_piece, are_symbols, is_side, is_line, kinds_by, taken_by, named_by}
use Rattle.poly_texts.proofs.StepLemmas.{some_in_order}

-- *members of lists*

inserted : (x : Coordinates) (ys : List Coordinates) → length (insert_in coordinates_cmp x ys) ≤ 1 + length ys
inserted x [] = omega arith
inserted x (y ∷ ys) = by_cmp (coordinates_cmp x y) (inserted x ys)
  where
    by_cmp : (o : Ordering) → length (insert_in coordinates_cmp x ys) ≤ 1 + length ys → length (by_order o (x ∷ y ∷ ys) (y ∷ ys) (y ∷ insert_in coordinates_cmp x ys)) ≤ 1 + length (y ∷ ys)
    by_cmp Less h = omega arith
    by_cmp Equal h = omega arith
    by_cmp Greater h = omega arith

pub ordered_few : (xs : List Coordinates) → length (in_order coordinates_cmp xs) ≤ length xs
unfolding in_order
ordered_few [] = omega arith
ordered_few (x ∷ xs) = let h = ordered_few xs in let i = inserted x (in_order coordinates_cmp xs) in omega arith

-- *within the limits*

box_limits : (a b c : ℕ) → a ≤ most_size → b ≤ most_size → c ≤ most_size → AllInGrid (box_cells a b c)
box_limits a b c la lb lc v i =
    let x = in_from_flat_map (layer b c) v (range_with_len 0 a) i in
    let y = in_from_flat_map (row c x.0) v (range_with_len 0 b) x.2 in
    let z = in_from_map (coordinates x.0 y.0) v (range_with_len 0 c) y.2 in
    let hx = in_from_range x.0 0 a x.1 in
    let hy = in_from_range y.0 0 b y.1 in
    let hz = in_from_range z.0 0 c z.1 in
    subst IsInGrid (sym z.2) (record { x_in = omega arith; y_in = omega arith; z_in = omega arith })

side_most : (n : ℕ) → is_side n ≡ true → n ≤ most_size
side_most n h = let p = and_parts (nat_lt 0 n) (nat_le n most_size) h in grind (arith, nat_tests)

line_limits : (l : Line) → is_line l ≡ true → AllInGrid (named_by l)
line_limits (box a b c) h =
    let p = and_parts (is_side a) (is_side b && is_side c) h in
    let q = and_parts (is_side b) (is_side c) p.1 in
    box_limits a b c (side_most a p.0) (side_most b q.0) (side_most c q.1)
line_limits (cells optional cs) h = all_in_grid_from cs (and_parts (nat_lt 0 (length cs)) (list_all is_in_grid cs) h).1
line_limits other h = λ c i. absurd i

-- the cells that lines name are within the limits
pub named_limits : (ls : List Line) → list_all is_line ls ≡ true → AllInGrid (flat_map named_by ls)
named_limits ls h c i = let l = in_from_flat_map named_by c ls i in line_limits l.0 (passes is_line ls h l.0 l.1) c l.2

pub uncut_limits : (gone named : List Coordinates) → AllInGrid named → AllInGrid (in_order coordinates_cmp (without gone named))
uncut_limits gone named limits c i =
    limits c (in_from_filter (λ d. not (has_cell gone d)) c named (in_from_order coordinates_cmp c (without gone named) i)).0

-- *pieces*

normal_len : (cs : List Coordinates) → length (normal cs) ≡ length cs
unfolding normal
normal_len cs = length-map cs (moved_back (corner cs))

piece_is : (cs : List Coordinates) → are_in_grid cs ≡ true → nat_le (length cs) most_piece_cells ≡ true → IsPiece (kept_shape cs)
piece_is cs good short =
    let p = and_parts (nat_lt 0 (length cs)) (list_all is_in_grid cs) good in
    let limits : AllInGrid (in_order coordinates_cmp cs) = λ c i. all_in_grid_from cs p.1 c (in_from_order coordinates_cmp c cs i) in
    let some : 0 < length (in_order coordinates_cmp cs) = some_in_order cs (grind (arith, nat_tests)) in
    let most : length cs ≤ most_piece_cells = grind (arith, nat_tests) in
    let same = normal_len (in_order coordinates_cmp cs) in
    let few = ordered_few cs in
    record {
      shape = normal_is_shape (in_order coordinates_cmp cs) (record { some = some; rises = in_order_rises coordinates_total cs; limits = limits });
      few = omega arith;
      origin = (normal_is (in_order coordinates_cmp cs) some limits).origin;
    }

-- the kinds that lines say are kinds
pub kinds_are : (ls : List Line) → list_all is_line ls ≡ true → AreKinds (flat_map kinds_by ls)
kinds_are ls h k i = let l = in_from_flat_map kinds_by k ls i in one l.0 (passes is_line ls h l.0 l.1) l.2
  where
    one : (l : Line) → is_line l ≡ true → IsIn k (kinds_by l) → IsKind k
    one (kind j) good (inl e) =
        let p = and_parts (are_symbols j) (are_a_piece j.cells) good in
        let q = and_parts (list_all is_name j.symbols) (are_so_many j.usage (length j.symbols) && may_spare j.usage j.spare (length j.symbols)) p.0 in
        let r = and_parts (are_so_many j.usage (length j.symbols)) (may_spare j.usage j.spare (length j.symbols)) q.1 in
        let c = and_parts (are_in_grid j.cells) (are_apart j.cells && nat_le (length j.cells) most_piece_cells) p.1 in
        let d = and_parts (are_apart j.cells) (nat_le (length j.cells) most_piece_cells) c.1 in
        subst IsKind (sym e) (record { named = q.0; many = r.0; spares = r.1; piece = piece_is j.cells c.0 d.1 })
    one (kind j) good (inr r) = absurd r
    one (box a b c) good j = absurd j
    one (cells optional cs) good j = absurd j
    one (cut cs) good j = absurd j

-- their symbols are those that the lines take
pub symbols_same : (ls : List Line) → symbols_in (flat_map kinds_by ls) ≡ flat_map taken_by ls
symbols_same [] = refl
symbols_same (kind k ∷ ls) = ap (λ ns. k.symbols ++ ns) (symbols_same ls)
symbols_same (box a b c ∷ ls) = symbols_same ls
symbols_same (cells optional cs ∷ ls) = symbols_same ls
symbols_same (cut cs ∷ ls) = symbols_same ls
