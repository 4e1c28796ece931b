-- A table of where numbers stood first, as numbers come one after another, tells the form that they make.
use Rattle.std.proofs.Common.{◌≡◌, ℕ, ◌+◌, ◌<◌, ◌≤◌, ◌==◌, Bool, true, false, not, ◌&&◌, cond, List, [], ◌∷◌, ◌++◌, take, drop, map, length, get_or, nat_lt, slice_set, slice_index, inl, inr, refl, sym, ap, ap₂, subst, ◌∙◌, arith, eqb-true, eq-eqb}
use Rattle.std.proofs.Math.ListN.{length-set}
use Rattle.std.specs.Cmp.{both_ways as same_tests}
use Rattle.std.proofs.lemmas.Bool.{cases_Bool, cases_lt, both_ways, cond-true, cond-false, le-ltb, lt-ltb, ne_eqb}
use Rattle.std.proofs.lemmas.List.{get_or_default, length-map, length-take-le, get_or-map, get_or-set_same, get_or-set_other, take-append-drop}
use Rattle.poly_cells.specs.Sets.{IsIn}
use Rattle.poly_cells.proofs.SetLemmas.{in_append_right, take_next}
use Rattle.poly_cells.proofs.MemberLemmas.{same_map}
use Rattle.poly_place.specs.Chosen.{place_in}
use Rattle.poly_place.specs.Forms.{carried, first_form, form_by}
use Rattle.poly_distinct.specs.Form.{first_place, second_place, with_noted}

-- where x stands first among these, counted from k on; 0 where it doesn't
abbrev pub seen_from : ℕ → List ℕ → ℕ → ℕ
seen_from k [] x = 0
seen_from k (y ∷ ys) x = cond (y == x) k (seen_from (k + 1) ys x)

-- the same from 1 on, and 0 for 0
abbrev pub noted : List ℕ → ℕ → ℕ
noted xs x = cond (0 == x) 0 (seen_from 1 xs x)

positive : (n : ℕ) → 0 < n → (n == 0) ≡ false
positive n h = ne_eqb n 0 (λ e. absurd (omega (arith, h, e)))

-- one number more
seen_more : (k : ℕ) (xs : List ℕ) (z x : ℕ) → 0 < k → seen_from k (xs ++ z ∷ []) x ≡ cond (seen_from k xs x == 0) (cond (z == x) (k + length xs) 0) (seen_from k xs x)
seen_more k [] z x some = ap (λ (n : ℕ). cond (z == x) n 0) (let e : k ≡ k + 0 = omega arith in e)
seen_more k (y ∷ ys) z x some =
    by_test (y == x)
    (seen_more (k + 1) ys z x (omega arith)
    ∙ ap (λ (n : ℕ). cond (seen_from (k + 1) ys x == 0) (cond (z == x) n 0) (seen_from (k + 1) ys x)) (let e : k + 1 + length ys ≡ k + length (y ∷ ys) = omega arith in e))
  where
    by_test : (b : Bool) → seen_from (k + 1) (ys ++ z ∷ []) x ≡ cond (seen_from (k + 1) ys x == 0) (cond (z == x) (k + length (y ∷ ys)) 0) (seen_from (k + 1) ys x)
        → cond b k (seen_from (k + 1) (ys ++ z ∷ []) x)
        ≡ cond (cond b k (seen_from (k + 1) ys x) == 0) (cond (z == x) (k + length (y ∷ ys)) 0) (cond b k (seen_from (k + 1) ys x))
    by_test true rest = sym (cond-false (k == 0) (cond (z == x) (k + length (y ∷ ys)) 0) k (positive k some))
    by_test false rest = rest

seen_at : (k : ℕ) (xs : List ℕ) (x : ℕ) → IsIn x xs → seen_from k xs x ≡ k + place_in xs x
seen_at k [] x i = absurd i
seen_at k (y ∷ ys) x i =
    elim (cases_Bool (y == x)) [
      | inl t ↦
          cond-true (y == x) k (seen_from (k + 1) ys x) t ∙ (let e : k ≡ k + 0 = omega arith in e)
          ∙ ap (λ (n : ℕ). k + n) (sym (cond-true (y == x) 0 (1 + place_in ys x) t))
      | inr n ↦
          let later : IsIn x ys = elim i [ inl e ↦ absurd (both_ways (y == x) n (eq-eqb y x (sym e))) | inr j ↦ j ] in
          cond-false (y == x) k (seen_from (k + 1) ys x) n ∙ seen_at (k + 1) ys x later
          ∙ (let e : k + 1 + place_in ys x ≡ k + (1 + place_in ys x) = omega arith in e)
          ∙ ap (λ (m : ℕ). k + m) (sym (cond-false (y == x) 0 (1 + place_in ys x) n))
    ]

seen_same : (k : ℕ) (xs ys : List ℕ) (x : ℕ) → IsIn x xs → seen_from k (xs ++ ys) x ≡ seen_from k xs x
seen_same k [] ys x i = absurd i
seen_same k (z ∷ zs) ys x i =
    elim (cases_Bool (z == x)) [
      | inl t ↦ cond-true (z == x) k (seen_from (k + 1) (zs ++ ys) x) t ∙ sym (cond-true (z == x) k (seen_from (k + 1) zs x) t)
      | inr n ↦
          let later : IsIn x zs = elim i [ inl e ↦ absurd (both_ways (z == x) n (eq-eqb z x (sym e))) | inr j ↦ j ] in
          ap (λ (m : ℕ). cond (z == x) k m) (seen_same (k + 1) zs ys x later)
    ]

-- ---- the form

form_is : (xs : List ℕ) → first_form xs ≡ map (noted xs) xs
unfolding first_form
form_is xs = same_map (place_in (0 ∷ xs)) (noted xs) xs (λ x i. ap (cond (0 == x) 0) (sym (seen_at 1 xs x i)))

-- what it has at a place, by the numbers up to there
pub form_at : (xs : List ℕ) (k : ℕ) → k < length xs → noted (take k xs ++ get_or xs k 0 ∷ []) (get_or xs k 0) ≡ get_or (first_form xs) k 0
form_at xs k lt =
    let x = get_or xs k 0 in
    let next : take (k + 1) xs ≡ take k xs ++ x ∷ [] = take_next xs k x lt (get_or_default xs k 0 x lt) in
    let among : IsIn x (take k xs ++ x ∷ []) = in_append_right x (take k xs) (x ∷ []) (inl refl) in
    ap (cond (0 == x) 0) (sym (seen_same 1 (take k xs ++ x ∷ []) (drop (k + 1) xs) x among))
    ∙ ap (λ (ys : List ℕ). noted ys x) (ap (λ (ys : List ℕ). ys ++ drop (k + 1) xs) (sym next) ∙ take-append-drop (k + 1) xs)
    ∙ sym (ap (λ (ys : List ℕ). get_or ys k 0) (form_is xs) ∙ get_or-map (noted xs) xs k 0 0 lt)

-- ---- the table

-- the table has where each number stands first among these, from 1 on, and 0 for 0 and for others
abbrev pub AreNoted : List ℕ → List ℕ → Type 0
AreNoted xs table = (x : ℕ) → slice_index table x ≡ noted xs x

set_here : (table : List ℕ) (x place : ℕ) (b : Bool) → x < length table → slice_index (cond b (slice_set table x place) table) x ≡ cond b place (slice_index table x)
set_here table x place true lt = get_or-set_same table x place 0 lt
set_here table x place false lt = refl

set_there : (table : List ℕ) (x y place : ℕ) (b : Bool) → ((y ≡ x) → ⊥) → slice_index (cond b (slice_set table x place) table) y ≡ slice_index table y
set_there table x y place true other = get_or-set_other table x y place 0 other
set_there table x y place false other = refl

above_none : (x : ℕ) → nat_lt 0 x ≡ not (0 == x)
above_none x =
    elim (cases_lt 0 x) [
      | inl some ↦ lt-ltb 0 x some ∙ sym (ap not (ne_eqb 0 x (λ e. absurd (omega (arith, some, e)))))
      | inr none ↦ le-ltb 0 x none ∙ sym (ap not (eq-eqb 0 x (omega (arith, none))))
    ]

none_or_it : (n : ℕ) → cond (n == 0) 0 n ≡ n
none_or_it n = elim (cases_Bool (n == 0)) [ inl t ↦ cond-true (n == 0) 0 n t ∙ sym (eqb-true n 0 t) | inr f ↦ cond-false (n == 0) 0 n f ]

pub noted_more : (table xs : List ℕ) (x place : ℕ) → AreNoted xs table → x < length table → place ≡ length xs + 1 → AreNoted (xs ++ x ∷ []) (with_noted table x place)
noted_more table xs x place so lt at y =
    elim (cases_Bool (x == y)) [
      | inl t ↦ subst (λ (z : ℕ). slice_index (with_noted table x place) z ≡ noted (xs ++ x ∷ []) z) (eqb-true x y t) here
      | inr n ↦
          set_there table x y place (nat_lt 0 x && (slice_index table x == 0)) (λ e. both_ways (x == y) n (eq-eqb x y (sym e)))
          ∙ so y
          ∙ ap (cond (0 == y) 0)
          (sym (seen_more 1 xs x y (omega arith) ∙ ap (λ (b : Bool). cond (seen_from 1 xs y == 0) (cond b (1 + length xs) 0) (seen_from 1 xs y)) n
          ∙ none_or_it (seen_from 1 xs y)))
    ]
  where
    s : ℕ
    s = seen_from 1 xs x

    by_test : (b : Bool) → cond (not b && (cond b 0 s == 0)) place (cond b 0 s) ≡ cond b 0 (cond (s == 0) (1 + length xs) s)
    by_test true = refl
    by_test false = ap (λ (n : ℕ). cond (s == 0) n s) (let e : place ≡ 1 + length xs = omega (arith, at) in e)

    here : slice_index (with_noted table x place) x ≡ noted (xs ++ x ∷ []) x
    here =
        set_here table x place (nat_lt 0 x && (slice_index table x == 0)) lt
        ∙ ap₂ (λ (b : Bool) (n : ℕ). cond (b && (n == 0)) place n) (above_none x) (so x)
        ∙ by_test (0 == x)
        ∙ ap (cond (0 == x) 0)
        (sym (seen_more 1 xs x x (omega arith) ∙ ap (λ (b : Bool). cond (s == 0) (cond b (1 + length xs) 0) s) (eq-eqb x x refl)))

pub noted_long : (table : List ℕ) (x place : ℕ) → length (with_noted table x place) ≡ length table
noted_long table x place = by_test (nat_lt 0 x && (slice_index table x == 0))
  where
    by_test : (b : Bool) → length (cond b (slice_set table x place) table) ≡ length table
    by_test true = length-set table x place
    by_test false = refl

-- ---- the loop

pub form_long : (xs : List ℕ) → length (first_form xs) ≡ length xs
unfolding first_form
form_long xs = length-map xs (place_in (0 ∷ xs))

form_by_long : (numbers carrier : List ℕ) → length (form_by numbers carrier) ≡ length carrier
form_by_long numbers carrier = form_long (carried numbers carrier) ∙ length-map carrier (slice_index numbers)

pub forms_long : (numbers carrier old : List ℕ) → length old ≡ length numbers → length carrier ≡ length numbers → length (form_by numbers carrier) ≡ length old
forms_long numbers carrier old o c = form_by_long numbers carrier ∙ c ∙ sym o

pub forms_within : (numbers carrier : List ℕ) (k : ℕ) → k < length carrier → k < length (form_by numbers carrier)
forms_within numbers carrier k lt = subst (λ (n : ℕ). k < n) (sym (form_by_long numbers carrier)) lt

pub forms_past : (numbers carrier : List ℕ) (k : ℕ) → length carrier ≤ k → length (form_by numbers carrier) ≤ k
forms_past numbers carrier k end = subst (λ (n : ℕ). n ≤ k) (sym (form_by_long numbers carrier)) end

module _ (numbers carrier : List ℕ) (k x first : ℕ) (old new : List ℕ) (lt : k < length carrier) (at : x ≡ slice_index numbers (slice_index carrier k))
    (so : AreNoted (take k (carried numbers carrier)) old) (low : x < length old) (made : new ≡ with_noted old x (k + 1)) where
  abbrev pub there : List ℕ
  there = carried numbers carrier

  within : k < length there
  within = let long = length-map carrier (slice_index numbers) in omega (arith, lt, long)

  same : get_or there k 0 ≡ x
  same = get_or-map (slice_index numbers) carrier k 0 0 lt ∙ sym at

  with_it : AreNoted (take k there ++ x ∷ []) new
  with_it y =
      ap (λ (t : List ℕ). slice_index t y) made
      ∙ noted_more old (take k there) x (k + 1) so low (let long = length-take-le k there (let w = within in omega (arith, w)) in omega (arith, long)) y

  pub noted_next : AreNoted (take (k + 1) there) new
  noted_next =
      subst (λ (xs : List ℕ). AreNoted xs new) (sym (take_next there k x within (sym same ∙ get_or_default there k 0 x within))) with_it

  pub noted_tells : first ≡ slice_index new x → first ≡ get_or (form_by numbers carrier) k 0
  noted_tells is =
      is ∙ with_it x ∙ sym (ap (λ (y : ℕ). noted (take k there ++ y ∷ []) y) same) ∙ form_at there k within

-- ---- the first two places

turned : (x y : ℕ) → (x == y) ≡ (y == x)
turned x y = same_tests (x == y) (y == x) (λ t. eq-eqb y x (sym (eqb-true x y t))) (λ t. eq-eqb x y (sym (eqb-true y x t)))

first_is : (x : ℕ) → noted (x ∷ []) x ≡ first_place x
first_is x = ap₂ (λ a b. cond a 0 (cond b 1 0)) (turned 0 x) (eq-eqb x x refl)

second_is : (x y : ℕ) → noted (x ∷ y ∷ []) y ≡ second_place x y
second_is x y =
    ap₂ (λ a b. cond a 0 (cond b 1 (cond (y == y) 2 0))) (turned 0 y) (turned x y)
    ∙ ap (λ b. cond (y == 0) 0 (cond (y == x) 1 (cond b 2 0))) (eq-eqb y y refl)

pub first_told : (numbers carrier : List ℕ) (x : ℕ) → 2 ≤ length carrier → x ≡ slice_index numbers (slice_index carrier 0) → first_place x ≡ get_or (form_by numbers carrier) 0 0
first_told numbers [] x le at = absurd (omega (arith, le))
first_told numbers (a ∷ r) x le at =
    sym (first_is x) ∙ ap (λ (y : ℕ). noted (y ∷ []) y) at
    ∙ form_at (carried numbers (a ∷ r)) 0 (let long = length-map (a ∷ r) (slice_index numbers) in omega (arith, long))

pub second_told : (numbers carrier : List ℕ) (x y : ℕ) → 2 ≤ length carrier → x ≡ slice_index numbers (slice_index carrier 0) → y ≡ slice_index numbers (slice_index carrier 1)
    → second_place x y ≡ get_or (form_by numbers carrier) 1 0
second_told numbers [] x y le f s = absurd (omega (arith, le))
second_told numbers (a ∷ []) x y le f s = absurd (omega (arith, le))
second_told numbers (a ∷ b ∷ r) x y le f s =
    sym (second_is x y) ∙ ap₂ (λ (v w : ℕ). noted (v ∷ w ∷ []) w) f s
    ∙ form_at (carried numbers (a ∷ b ∷ r)) 1 (let long = length-map (a ∷ b ∷ r) (slice_index numbers) in omega (arith, long))
