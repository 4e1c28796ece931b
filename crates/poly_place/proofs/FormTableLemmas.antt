-- Forms made in one pass: the parts that are painted, and the table of where each number stands first.
use Rattle.std.proofs.Common.{◌≡◌, ℕ, suc, ◌+◌, ◌-◌, ◌<◌, ◌≤◌, ◌==◌, Bool, true, false, ◌||◌, cond, List, [], ◌∷◌, ◌⊎◌, map, length, get_or, take, drop, inl, inr, refl, sym, ap, ap₂, subst, ◌∙◌, arith, Less, replicate, slice_set, slice_index, eqb-true, eq-eqb, drop-cons, drop_of_length-le, length-drop}
use Rattle.std.specs.List.Sorted.{IsStrictlySortedBy}
use Rattle.std.proofs.Math.ListN.{length-set, length-replicate}
use Rattle.std.proofs.lemmas.Bool.{cases_Bool, both_ways, cond-true, cond-false}
use Rattle.std.proofs.lemmas.List.{get_or-set_same, get_or-set_other}
use Rattle.poly_cells.specs.Coordinates.{Coordinates, IsInGrid, coordinates_cmp}
use Rattle.poly_cells.specs.Sets.{IsIn}
use Rattle.poly_cells.specs.Shapes.{IsShape}
use Rattle.poly_cells.specs.CellTests.{is_same, has_cell}
use Rattle.poly_cells.proofs.SetLemmas.{rising_head, rising_tail, not_itself, in_from_map, take_next}
use Rattle.poly_cells.proofs.MemberLemmas.{same_map}
use Rattle.poly_cells.proofs.CellTestLemmas.{in_from_has, has_from_in}
use Rattle.poly_cells.proofs.CoordinateLemmas.{coordinates_total, is_same_Decides}
use Rattle.poly_place.specs.Packings.{ChoiceValue, place_of}
use Rattle.poly_place.specs.Chosen.{place_in}
use Rattle.poly_place.specs.Classes.{part_at}
use Rattle.poly_place.specs.Compiled.{item_number_at, ArePlacesOf}
use Rattle.poly_place.specs.Layers.{painted}
use Rattle.poly_place.specs.Forms.{AreBelow, carried, first_form, parts_in}
use Rattle.poly_place.specs.FormTables.{AreFirsts, PaintsParts, firsts_from}
use Rattle.poly_place.proofs.PlaceLemmas.{place_within}
use Rattle.poly_place.proofs.TableLemmas.{cell_more}

-- ---- parts

-- one cell more of a part
one_cell : (vs : List Coordinates) (v : Coordinates) (part : ℕ) (f : Coordinates → ℕ) → IsStrictlySortedBy coordinates_cmp vs
    → IsIn v vs → slice_set (map f vs) (place_of vs v) part ≡ map (λ w. cond (is_same w v) part (f w)) vs
one_cell [] v part f r i = absurd i
one_cell (c ∷ cs) v part f r i =
    elim (cases_Bool (is_same c v)) [
      | inl t ↦
          let e : c ≡ v = (is_same_Decides c v).0 t in
          ap (λ (b : Bool). slice_set (map f (c ∷ cs)) (cond b 0 (1 + place_of cs v)) part) t
          ∙ ap₂ (λ (k : ℕ) (ks : List ℕ). k ∷ ks) (sym (cond-true (is_same c v) part (f c) t))
          (same_map f (λ w. cond (is_same w v) part (f w)) cs
          (λ w j. sym (cond-false (is_same w v) part (f w) (other w e (rising_head coordinates_cmp c cs r w j)))))
      | inr n ↦
          let later : IsIn v cs = elim i [ inl e ↦ absurd (both_ways (is_same c v) n ((is_same_Decides c v).1 (sym e))) | inr j ↦ j ] in
          ap (λ (b : Bool). slice_set (map f (c ∷ cs)) (cond b 0 (1 + place_of cs v)) part) n
          ∙ ap (λ (k : ℕ). slice_set (map f (c ∷ cs)) k part) (let e : 1 + place_of cs v ≡ suc (place_of cs v) = omega arith in e)
          ∙ ap₂ (λ (k : ℕ) (ks : List ℕ). k ∷ ks) (sym (cond-false (is_same c v) part (f c) n)) (one_cell cs v part f (rising_tail coordinates_cmp c cs r) later)
    ]
  where
    other : (w : Coordinates) → c ≡ v → coordinates_cmp c w ≡ Less → is_same w v ≡ false
    other w e less = elim (cases_Bool (is_same w v)) [
      | inl t ↦ absurd (not_itself coordinates_total c (subst (λ (u : Coordinates). coordinates_cmp c u ≡ Less) ((is_same_Decides w v).0 t ∙ sym e) less))
      | inr n ↦ n
    ]

-- the cells so far and one more
painted_next : (f : Coordinates → ℕ) (us : List Coordinates) (i : ℕ) (v : Coordinates) (part : ℕ) → i < length us → v ≡ get_or us i v → (w : Coordinates)
    → cond (is_same w v) part (painted f (take i us) part w) ≡ painted f (take (i + 1) us) part w
painted_next f us i v part lt is w =
    either (has_cell (take i us) w) (is_same w v) (f w)
    ∙ ap (λ c. cond c part (f w)) (sym (cell_more (take i us) v w) ∙ sym (ap (λ (vs : List Coordinates). has_cell vs w) (take_next us i v lt is)))
  where
    either : (a b : Bool) (k : ℕ) → cond b part (cond a part k) ≡ cond (a || b) part k
    either true true k = refl
    either true false k = refl
    either false true k = refl
    either false false k = refl

-- a loop that paints cells has painted one more: in the region at its place, and elsewhere not at all
pub paint_more : (vs us : List Coordinates) (places : List ℕ) (f : Coordinates → ℕ) (i place part : ℕ) (v : Coordinates) (old new : List ℕ) → IsShape vs → ArePlacesOf vs places → i < length us → v ≡ get_or us i v
    → IsInGrid v → place ≡ item_number_at places v → (0 < place → new ≡ slice_set old (place - 1) part) → (place ≤ 0 → new ≡ old)
    → old ≡ map (painted f (take i us) part) vs → new ≡ map (painted f (take (i + 1) us) part) vs
paint_more vs us places f i place part v old new s are lt is grid at inside outside so =
    elim (cases_Bool (has_cell vs v)) [
      | inl t ↦
          let here = in_from_has vs v t in
          let there : place ≡ place_of vs v + 1 = at ∙ are.same v here in
          inside (omega (arith, there))
          ∙ ap₂ (λ (ks : List ℕ) (k : ℕ). slice_set ks k part) so (let e : place - 1 ≡ place_of vs v = omega (arith, there) in e)
          ∙ one_cell vs v part (painted f (take i us) part) s.rises here
          ∙ same_map (λ w. cond (is_same w v) part (painted f (take i us) part w)) (painted f (take (i + 1) us) part) vs (λ w j. painted_next f us i v part lt is w)
      | inr n ↦
          let none = are.others v grid (λ j. both_ways (has_cell vs v) n (has_from_in vs v j)) in
          outside (omega (arith, at, none)) ∙ so
          ∙ same_map (painted f (take i us) part) (painted f (take (i + 1) us) part) vs
          (λ w j. sym (cond-false (is_same w v) part (painted f (take i us) part w) (other w j n)) ∙ painted_next f us i v part lt is w)
    ]
  where
    other : (w : Coordinates) → IsIn w vs → has_cell vs v ≡ false → is_same w v ≡ false
    other w j n = elim (cases_Bool (is_same w v)) [
      | inl t ↦ absurd (both_ways (has_cell vs v) n (has_from_in vs v (subst (λ (u : Coordinates). IsIn u vs) ((is_same_Decides w v).0 t) j)))
      | inr m ↦ m
    ]

-- the places in a table are those of a list as long as the region
pub places_low : (vs : List Coordinates) (places parts : List ℕ) → IsShape vs → ArePlacesOf vs places → length parts ≡ length vs → (v : Coordinates) → IsInGrid v → item_number_at places v ≤ length parts
places_low vs places parts s are long v grid =
    elim (cases_Bool (has_cell vs v)) [
      | inl t ↦
          let here = in_from_has vs v t in
          let at = are.same v here in
          let low = place_within vs v s.rises here in
          omega (arith, at, low, long)
      | inr n ↦ let none = are.others v grid (λ j. both_ways (has_cell vs v) n (has_from_in vs v j)) in omega (arith, none)
    ]

no_parts : (vs : List Coordinates) → replicate (length vs) 0 ≡ parts_in vs []
no_parts [] = refl
no_parts (v ∷ vs) = ap (λ (ks : List ℕ). 0 ∷ ks) (no_parts vs)

pub parts_begin : (vs : List Coordinates) (cs : List ChoiceValue) (n count : ℕ) (parts : List ℕ) → count ≡ length cs → n ≡ length vs → parts ≡ replicate n 0
    → parts ≡ parts_in vs (drop (count - 0) cs)
parts_begin vs cs n count parts c l is =
    is ∙ ap (λ (k : ℕ). replicate k 0) l ∙ no_parts vs ∙ ap (parts_in vs) (sym (drop_of_length-le cs (omega (arith, c))))

-- one placement more, from the last on
pub parts_more : (vs : List Coordinates) (places : List ℕ) (cs : List ChoiceValue) (k count : ℕ) (c : ChoiceValue) (cells : List Coordinates) (old new : List ℕ) → IsShape vs → ArePlacesOf vs places
    → count ≡ length cs → k < count → c ≡ get_or cs (count - 1 - k) c → cells ≡ c.cells → old ≡ parts_in vs (drop (count - k) cs) → PaintsParts places old new cells (k + 1)
    → new ≡ parts_in vs (drop (count - (k + 1)) cs)
parts_more vs places cs k count c cells old new s are long lt at its so paints =
    let i : ℕ = count - 1 - k in
    let next : count - k ≡ suc i = omega (arith, lt) in
    let here : count - (k + 1) ≡ i = omega arith in
    let split : drop i cs ≡ c ∷ drop (suc i) cs = drop-cons cs i c (omega (arith, lt, long)) ∙ ap (λ (d : ChoiceValue). d ∷ drop (suc i) cs) (sym at) in
    let most : k + 1 ≡ length (c ∷ drop (suc i) cs) = let d = length-drop (suc i) cs in omega (arith, d, lt, long) in
    let old_is : old ≡ map (part_at (drop (suc i) cs)) vs = so ∙ ap (λ (n : ℕ). parts_in vs (drop n cs)) next in
    paints vs (part_at (drop (suc i) cs)) s are old_is
    ∙ ap (λ (us : List Coordinates). map (λ w. cond (has_cell us w) (k + 1) (part_at (drop (suc i) cs) w)) vs) its
    ∙ ap (λ (n : ℕ). map (λ w. cond (has_cell c.cells w) n (part_at (drop (suc i) cs) w)) vs) most
    ∙ ap (parts_in vs) (sym split) ∙ ap (λ (n : ℕ). parts_in vs (drop n cs)) (sym here)

part_low : (cs : List ChoiceValue) (v : Coordinates) → part_at cs v ≤ length cs
part_low [] v = omega arith
part_low (c ∷ cs) v = by_test (has_cell c.cells v) (part_low cs v)
  where
    by_test : (b : Bool) → part_at cs v ≤ length cs → cond b (length (c ∷ cs)) (part_at cs v) ≤ length (c ∷ cs)
    by_test true low = omega arith
    by_test false low = omega (arith, low)

pub parts_below : (vs : List Coordinates) (cs : List ChoiceValue) → AreBelow (length cs + 1) (parts_in vs cs)
parts_below vs cs k i =
    let v = in_from_map (part_at cs) k vs i in
    let low = part_low cs v.0 in
    let e = v.2 in
    omega (arith, low, e)

-- ---- where numbers stand first

pub noted_long : (k : ℕ) (xs table : List ℕ) → length (firsts_from k xs table) ≡ length table
noted_long k [] table = refl
noted_long k (x ∷ xs) table = length-set (firsts_from (k + 1) xs table) x (k + 1) ∙ noted_long (k + 1) xs table

noted_at : (k : ℕ) (xs table : List ℕ) → AreBelow (length table) xs → (x : ℕ) → IsIn x xs → slice_index (firsts_from k xs table) x ≡ k + 1 + place_in xs x
noted_at k [] table low x i = absurd i
noted_at k (y ∷ ys) table low x i =
    let rest = firsts_from (k + 1) ys table in
    let long = noted_long (k + 1) ys table in
    elim (cases_Bool (y == x)) [
      | inl t ↦
          let e = eqb-true y x t in
          let lt = low y (inl refl) in
          let here = ap (slice_index (slice_set rest y (k + 1))) (sym e) ∙ get_or-set_same rest y (k + 1) 0 (omega (arith, long, lt)) in
          let none = cond-true (y == x) 0 (1 + place_in ys x) t in
          omega (arith, here, none)
      | inr n ↦
          let later : IsIn x ys = elim i [ inl e ↦ absurd (both_ways (y == x) n (eq-eqb y x (sym e))) | inr j ↦ j ] in
          let other = get_or-set_other rest y x (k + 1) 0 (λ e. both_ways (y == x) n (eq-eqb y x (sym e))) in
          let more = noted_at (k + 1) ys table (λ z j. low z (inr j)) x later in
          let past = cond-false (y == x) 0 (1 + place_in ys x) n in
          omega (arith, other, more, past)
    ]

-- one number more, from the last on
pub note_more : (numbers zeros : List ℕ) (k count place x : ℕ) (old new : List ℕ) → count ≡ length numbers → k < count → place ≡ count - 1 - k → x ≡ get_or numbers place x
    → old ≡ firsts_from (count - k) (drop (count - k) numbers) zeros → new ≡ slice_set old x (place + 1) → new ≡ firsts_from (count - (k + 1)) (drop (count - (k + 1)) numbers) zeros
note_more numbers zeros k count place x old new long lt p at so made =
    let next : count - k ≡ suc place = omega (arith, lt, p) in
    let one : suc place ≡ place + 1 = omega arith in
    let here : count - (k + 1) ≡ place = omega (arith, p) in
    let split : drop place numbers ≡ x ∷ drop (suc place) numbers = drop-cons numbers place x (omega (arith, lt, long, p)) ∙ ap (λ (y : ℕ). y ∷ drop (suc place) numbers) (sym at) in
    made ∙ ap (λ (t : List ℕ). slice_set t x (place + 1)) (so ∙ ap₂ (λ (m n : ℕ). firsts_from m (drop n numbers) zeros) (next ∙ one) next)
    ∙ ap (λ (xs : List ℕ). firsts_from place xs zeros) (sym split) ∙ ap (λ (n : ℕ). firsts_from n (drop n numbers) zeros) (sym here)

pub note_begin : (numbers : List ℕ) (count : ℕ) (zeros : List ℕ) → count ≡ length numbers → zeros ≡ firsts_from (count - 0) (drop (count - 0) numbers) zeros
note_begin numbers count zeros long = sym (ap (λ (xs : List ℕ). firsts_from (count - 0) xs zeros) (drop_of_length-le numbers (omega (arith, long))))

pub note_end : (numbers : List ℕ) (k count size : ℕ) (zeros old new : List ℕ) → count ≤ k → zeros ≡ replicate size 0 → 0 < size → AreBelow size numbers
    → old ≡ firsts_from (count - k) (drop (count - k) numbers) zeros → new ≡ slice_set old 0 0 → AreFirsts numbers size new
note_end numbers k count size zeros old new h z some low so made = record {
  long = ap (λ (t : List ℕ). length t) whole ∙ length-set (firsts_from 0 numbers zeros) 0 0 ∙ noted_long 0 numbers zeros ∙ sized;
  at = λ x i. ap (λ (t : List ℕ). slice_index t x) whole ∙ by_first x i (cases_Bool (0 == x));
}
  where
    sized : length zeros ≡ size
    sized = ap (λ (t : List ℕ). length t) z ∙ length-replicate size 0

    whole : new ≡ slice_set (firsts_from 0 numbers zeros) 0 0
    whole = made ∙ ap (λ (t : List ℕ). slice_set t 0 0) (so ∙ ap (λ (n : ℕ). firsts_from n (drop n numbers) zeros) (let e : count - k ≡ 0 = omega (arith, h) in e))

    by_first : (x : ℕ) → IsIn x numbers → (0 == x ≡ true) ⊎ (0 == x ≡ false) → slice_index (slice_set (firsts_from 0 numbers zeros) 0 0) x ≡ place_in (0 ∷ numbers) x
    by_first x i (inl t) =
        ap (slice_index (slice_set (firsts_from 0 numbers zeros) 0 0)) (sym (eqb-true 0 x t))
        ∙ get_or-set_same (firsts_from 0 numbers zeros) 0 0 0 (let l = noted_long 0 numbers zeros in omega (arith, l, sized, some))
        ∙ sym (cond-true (0 == x) 0 (1 + place_in numbers x) t)
    by_first x i (inr n) =
        get_or-set_other (firsts_from 0 numbers zeros) 0 x 0 0 (λ e. both_ways (0 == x) n (eq-eqb 0 x (sym e)))
        ∙ noted_at 0 numbers zeros (subst (λ (m : ℕ). AreBelow m numbers) (sym sized) low) x i
        ∙ sym (cond-false (0 == x) 0 (1 + place_in numbers x) n)

-- the form by the table
pub form_by_table : (numbers table form : List ℕ) (size : ℕ) → AreFirsts numbers size table → form ≡ carried table numbers → form ≡ first_form numbers
unfolding first_form
form_by_table numbers table form size f is = is ∙ same_map (slice_index table) (place_in (0 ∷ numbers)) numbers f.at
