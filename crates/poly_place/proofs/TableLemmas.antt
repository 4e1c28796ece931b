-- A region's table: one bit more for one cell more, and the same answers as the region itself.
use Rattle.std.proofs.Common.{◌≡◌, ℕ, zero, suc, ◌+◌, ◌*◌, ◌<◌, ◌≤◌, List, [], ◌∷◌, ◌++◌, length, get_or, take, Bool, true, false, ◌&&◌, ◌||◌, nat_le, inl, inr, refl, sym, ap, subst, ◌∙◌, arith, replicate, slice_set, slice_index_or, append_assoc, ◌⊎◌, Ordering, Less, Equal, Greater, nat_cmp}
use Rattle.std.proofs.Math.ListN.{length-set, length-replicate}
use Rattle.std.proofs.lemmas.Bool.{and_from, leb-true, le-leb, cases_Bool, and_parts, or_right, and_right}
use Rattle.std.proofs.lemmas.List.{get_or-set_same, get_or-set_other, take_at}
use Rattle.std.proofs.lemmas.List.Folds.{list_any-append}
use Rattle.std.specs.List.Sorted.{IsStrictlySortedBy}
use Rattle.std.specs.Ordering.{ordering_then}
use Rattle.std.proofs.lemmas.Bool.Decides.{nat_tests}
use Rattle.poly_cells.specs.Coordinates.{Coordinates, IsInGrid, coordinates_cmp}
use Rattle.poly_cells.specs.Shapes.{AllInGrid, IsShape}
use Rattle.poly_cells.proofs.CoordinateLemmas.{same_coordinates, is_same_Decides}
use Rattle.poly_cells.specs.CellTests.{is_same, has_cell}
use Rattle.poly_place.specs.Tables.{bit_index, has_bit, IsCellTable}
use Rattle.std.proofs.Math.Bool.{or-false}
use Rattle.poly_cells.proofs.SetLemmas.{take_next, rising_head, rising_tail}

-- ---- the place of a bit tells the cell

pub low : (v : Coordinates) → IsInGrid v → bit_index v < 32768
low v h = let x = h.x_in in let y = h.y_in in let z = h.z_in in omega arith

same_x : (a b c d e f : ℕ) → b ≤ 31 → c ≤ 31 → e ≤ 31 → f ≤ 31 → 1024 * a + 32 * b + c ≡ 1024 * d + 32 * e + f → a ≡ d
same_x a b c d e f p q r s h = omega arith

same_y : (b c e f : ℕ) → c ≤ 31 → f ≤ 31 → 32 * b + c ≡ 32 * e + f → b ≡ e
same_y b c e f q s h = omega arith

pub bit_index_same : (v w : Coordinates) → IsInGrid v → IsInGrid w → bit_index v ≡ bit_index w → v ≡ w
bit_index_same v w h g e =
    let x = same_x v.x v.y v.z w.x w.y w.z h.y_in h.z_in g.y_in g.z_in e in
    let low_parts : 32 * v.y + v.z ≡ 32 * w.y + w.z = omega (arith, x, e) in
    let y = same_y v.y v.z w.y w.z h.z_in g.z_in low_parts in
    same_coordinates v.x v.y v.z w.x w.y w.z x y (omega (arith, y, low_parts))

-- ---- how many cells there are in the grid

nat_less : (m n : ℕ) → nat_cmp m n ≡ Less → m < n
nat_less m n h = grind (arith, nat_tests)

nat_same : (m n : ℕ) → nat_cmp m n ≡ Equal → m ≡ n
nat_same m n h = grind (arith, nat_tests)

first_less : (a b : Ordering) → ordering_then a b ≡ Less → (a ≡ Less) ⊎ ((a ≡ Equal) × (b ≡ Less))
first_less Less b h = inl refl
first_less Equal b h = inr (refl, h)
first_less Greater b h = cc

bit_rises : (v w : Coordinates) → IsInGrid v → IsInGrid w → coordinates_cmp v w ≡ Less → bit_index v < bit_index w
bit_rises v w g h less =
    let y = g.y_in in
    let z = g.z_in in
    elim (first_less (nat_cmp v.x w.x) (ordering_then (nat_cmp v.y w.y) (nat_cmp v.z w.z)) less) [
      | inl a ↦ let lt = nat_less v.x w.x a in omega arith
      | inr b ↦
          let same = nat_same v.x w.x b.0 in
          elim (first_less (nat_cmp v.y w.y) (nat_cmp v.z w.z) b.1) [
            | inl c ↦ let lt = nat_less v.y w.y c in omega arith
            | inr d ↦ let also = nat_same v.y w.y d.0 in let lt = nat_less v.z w.z d.1 in omega arith
          ]
    ]

few_from : (v : Coordinates) (vs : List Coordinates) → IsStrictlySortedBy coordinates_cmp (v ∷ vs) → AllInGrid (v ∷ vs) → bit_index v + length (v ∷ vs) ≤ 32768
few_from v [] rises all = let b = low v (all v (inl refl)) in omega (arith, b)
few_from v (w ∷ ws) rises all =
    let rest = few_from w ws (rising_tail coordinates_cmp v (w ∷ ws) rises) (λ u i. all u (inr i)) in
    let less = bit_rises v w (all v (inl refl)) (all w (inr (inl refl))) (rising_head coordinates_cmp v (w ∷ ws) rises w (inl refl)) in
    omega (arith, rest, less)

pub few_in_grid : (vs : List Coordinates) → IsShape vs → length vs ≤ 32768
few_in_grid [] s = omega arith
few_in_grid (v ∷ vs) s = let few = few_from v vs s.rises s.limits in omega (arith, few)

-- ---- tests

and_under : (b x y : Bool) → (b ≡ true → x ≡ y) → b && x ≡ b && y
and_under true x y h = h refl
and_under false x y h = refl

-- within the limits, two tables answer alike where their bits are alike
alike : (bits new : List Bool) (c : Coordinates) → (IsInGrid c → slice_index_or new (bit_index c) false ≡ slice_index_or bits (bit_index c) false) → has_bit new c ≡ has_bit bits c
alike bits new c h =
    and_under (nat_le c.x 31) _ _ (λ x. and_under (nat_le c.y 31) _ _ (λ y. and_under (nat_le c.z 31) _ _ (λ z.
    h (record { x_in = leb-true c.x 31 x; y_in = leb-true c.y 31 y; z_in = leb-true c.z 31 z }))))

true_bit : (bits : List Bool) (c : Coordinates) → IsInGrid c → slice_index_or bits (bit_index c) false ≡ true → has_bit bits c ≡ true
true_bit bits c h b =
    and_from (nat_le c.x 31) (nat_le c.y 31 && (nat_le c.z 31 && slice_index_or bits (bit_index c) false)) (le-leb c.x 31 h.x_in)
    (and_from (nat_le c.y 31) (nat_le c.z 31 && slice_index_or bits (bit_index c) false) (le-leb c.y 31 h.y_in)
    (and_from (nat_le c.z 31) (slice_index_or bits (bit_index c) false) (le-leb c.z 31 h.z_in) b))

pub bit_in : (bits : List Bool) (c : Coordinates) → has_bit bits c ≡ true → IsInGrid c
bit_in bits c h =
    let p = and_parts (nat_le c.x 31) (nat_le c.y 31 && (nat_le c.z 31 && slice_index_or bits (bit_index c) false)) h in
    let q = and_parts (nat_le c.y 31) (nat_le c.z 31 && slice_index_or bits (bit_index c) false) p.1 in
    let r = and_parts (nat_le c.z 31) (slice_index_or bits (bit_index c) false) q.1 in
    record { x_in = leb-true c.x 31 p.0; y_in = leb-true c.y 31 q.0; z_in = leb-true c.z 31 r.0 }

-- ---- one bit more

bit_more : (bits : List Bool) (v c : Coordinates) → IsInGrid v → length bits ≡ 32768 → has_bit (slice_set bits (bit_index v) true) c ≡ has_bit bits c || is_same c v
bit_more bits v c h long =
    let new = slice_set bits (bit_index v) true in
    elim (cases_Bool (is_same c v)) [
      | inl t ↦
          let e : c ≡ v = (is_same_Decides c v).0 t in
          let lt : bit_index v < length bits = let b = low v h in omega arith in
          let at : slice_index_or new (bit_index c) false ≡ true =
          ap (λ (w : Coordinates). slice_index_or new (bit_index w) false) e ∙ get_or-set_same bits (bit_index v) true false lt in
          true_bit new c (subst IsInGrid (sym e) h) at ∙ sym (or_right (has_bit bits c) (is_same c v) t)
      | inr f ↦
          alike bits new c (λ g. get_or-set_other bits (bit_index v) (bit_index c) true false
          (λ e. let t = (is_same_Decides c v).1 (bit_index_same c v g h e) in cc))
          ∙ sym (or-false (has_bit bits c)) ∙ ap (λ b. has_bit bits c || b) (sym f)
    ]

pub cell_more : (region : List Coordinates) (v c : Coordinates) → has_cell (region ++ v ∷ []) c ≡ has_cell region c || is_same c v
cell_more region v c = list_any-append (is_same c) region (v ∷ []) ∙ ap (λ b. has_cell region c || b) (or-false (is_same c v))

grown : (region vs : List Coordinates) (i : ℕ) (v : Coordinates) → i < length vs → v ≡ get_or vs i v → (region ++ take i vs) ++ v ∷ [] ≡ region ++ take (i + 1) vs
grown region vs i v lt is =
    append_assoc region (take i vs) (v ∷ []) ∙ ap (λ ws. region ++ ws) (sym (take_next vs i v lt is))

-- a loop that sets the bits of vs has set that of one more
pub table_more : (region vs : List Coordinates) (i : ℕ) (v : Coordinates) (bits new : List Bool) (k : ℕ) → i < length vs → v ≡ get_or vs i v → IsInGrid v → k ≡ bit_index v → new ≡ slice_set bits k true
    → IsCellTable (region ++ take i vs) bits → IsCellTable (region ++ take (i + 1) vs) new
table_more region vs i v bits new k lt is h at set t =
    let one : new ≡ slice_set bits (bit_index v) true = set ∙ ap (λ j. slice_set bits j true) at in
    record {
      long = ap length one ∙ length-set bits (bit_index v) true ∙ t.long;
      same = λ c. ap (λ b. has_bit b c) one ∙ bit_more bits v c h t.long ∙ ap (λ b. b || is_same c v) (t.same c) ∙ sym (cell_more (region ++ take i vs) v c)
          ∙ ap (λ r. has_cell r c) (grown region vs i v lt is);
    }

-- ---- no bit

no_bit : (n k : ℕ) → slice_index_or (replicate n false) k false ≡ false
no_bit zero k = refl
no_bit (suc n) zero = refl
no_bit (suc n) (suc k) = no_bit n k

pub empty_table : (bits : List Bool) (n : ℕ) → bits ≡ replicate n false → n ≡ 32768 → IsCellTable [] bits
empty_table bits n e m = record {
  long = ap length e ∙ length-replicate n false ∙ m;
  same = λ c. and_right (nat_le c.x 31) _ (and_right (nat_le c.y 31) _ (and_right (nat_le c.z 31) _ (ap (λ (b : List Bool). slice_index_or b (bit_index c) false) e ∙ no_bit n (bit_index c))));
}

-- what a vector holds after its bits were changed as a slice
pub table_written : (region : List Coordinates) (bits old : List Bool) (size : ℕ) → length bits ≡ size → IsCellTable region bits → IsCellTable region (take size (bits ++ old))
table_written region bits old size e t = subst (IsCellTable region) (sym (take_at bits old size e)) t
