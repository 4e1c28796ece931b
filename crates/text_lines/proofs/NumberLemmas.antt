-- Decimal numbers: their value grows with each digit, and printing a number gives its word.
use Rattle.std.proofs.Common.{rules, eq-eqb, ◌≡◌, ℕ, zero, suc, ◌+◌, ◌*◌, ◌-◌, ◌<◌, ◌≤◌, ◌^◌, List, [], ◌∷◌, ◌++◌, length, take, drop, get_or, Bool, true, false, not, cond, ◌&&◌, ◌==◌, refl, sym, ◌∙◌, ap, arith, nat_le, Some, None}
use Rattle.std.proofs.lemmas.Bool.{and_parts, and_from, leb-true, eqb-true, not-true, both_ways}
use Rattle.std.proofs.lemmas.Bool.Decides.{nat_tests}
use Rattle.std.proofs.lemmas.List.{take_more, take-append-drop}
use Rattle.std.specs.Fmt.{decimal}
use Rattle.std.specs.List.{list_all}
use Rattle.std.proofs.lemmas.Str.Parse.{IsNumeralModel, IsDigitsTest, numerals_by_fold}
use Rattle.std.proofs.lemmas.Fmt.{decimal_digit, first_decimal, digits_decimal, digits_value-decimal, decimal-digits_value}
use Rattle.text_lines.specs.Numbers.{is_digit, begins_well, is_decimal, value_after, number_within}

-- *the value, digit by digit*

value-append : (n : ℕ) (bs cs : List ℕ) → value_after n (bs ++ cs) ≡ value_after (value_after n bs) cs
value-append n [] cs = refl
value-append n (b ∷ bs) cs = value-append (10 * n + (b - 48)) bs cs

value-grows : (n : ℕ) (bs : List ℕ) → n ≤ value_after n bs
value-grows n [] = omega arith
value-grows n (b ∷ bs) = omega (arith, value-grows (10 * n + (b - 48)) bs)

-- one more digit
pub value_more : (bs : List ℕ) (i : ℕ) → i < length bs → value_after 0 (take (i + 1) bs) ≡ 10 * value_after 0 (take i bs) + (get_or bs i 0 - 48)
value_more bs i h = rw (take_more bs i 0 h) (value-append 0 (take i bs) (get_or bs i 0 ∷ []))

-- the same, as a loop counts it
pub next_digit : (word : List ℕ) (i value : ℕ) → i < length word → value ≡ value_after 0 (take i word) → value * 10 + (get_or word i 0 - 48) ≡ value_after 0 (take (i + 1) word)
next_digit word i value h so_far = omega (arith, value_more word i h)

-- the digits so far stand for no more than all
pub value_so_far : (bs : List ℕ) (i : ℕ) → value_after 0 (take i bs) ≤ value_after 0 bs
value_so_far bs i =
    let all : value_after 0 bs ≡ value_after (value_after 0 (take i bs)) (drop i bs) = ap (value_after 0) (sym (take-append-drop i bs)) ∙ value-append 0 (take i bs) (drop i bs) in
    rw all (value-grows (value_after 0 (take i bs)) (drop i bs))

digit_in : (bs : List ℕ) (i : ℕ) → list_all is_digit bs ≡ true → i < length bs → (48 ≤ get_or bs i 0) × (get_or bs i 0 ≤ 57)
digit_in [] i h l = absurd (omega arith)
digit_in (b ∷ bs) zero h l =
    let p : (is_digit b ≡ true) × (list_all is_digit bs ≡ true) = and_parts _ _ h in
    let q : (nat_le 48 b ≡ true) × (nat_le b 57 ≡ true) = and_parts _ _ p.0 in
    (leb-true 48 b q.0, leb-true b 57 q.1)
digit_in (b ∷ bs) (suc i) h l =
    let p : (is_digit b ≡ true) × (list_all is_digit bs ≡ true) = and_parts _ _ h in
    digit_in bs i p.1 (omega arith)

-- *a number within its bound*

none_above_step : (d : Bool) (v most : ℕ) → most < v → None ≡ cond (d && nat_le v most) (Some v) None
none_above_step true v most h = let e : nat_le v most ≡ false = grind (arith, nat_tests) in rw e refl
none_above_step false v most h = refl

pub none_above : (most : ℕ) (word : List ℕ) → most < value_after 0 word → None ≡ number_within most word
none_above most word h = none_above_step (is_decimal word) (value_after 0 word) most h

pub some_within : (most : ℕ) (word : List ℕ) → is_decimal word ≡ true → value_after 0 word ≤ most → Some (value_after 0 word) ≡ number_within most word
some_within most word d h = let e : nat_le (value_after 0 word) most ≡ true = grind (arith, nat_tests) in rw (d, e) refl

-- *the word of a number*

is_digit_from : (c : ℕ) → 48 ≤ c → c ≤ 57 → is_digit c ≡ true
is_digit_from c low high = grind (arith, nat_tests)

not_48 : (v : Bool) (b : ℕ) → (b == 48) ≡ v → (b ≡ 48 → ⊥) → not v ≡ true
not_48 true b e h = absurd (h (eqb-true b 48 e))
not_48 false b e h = refl

digits_test : IsDigitsTest (λ ds. list_all is_digit ds ≡ true)
digits_test = record {
  empty = refl;
  parts = λ c cs h. (digit_in (c ∷ cs) 0 h (omega arith), (and_parts (is_digit c) (list_all is_digit cs) h).1);
  more = λ c cs r h. and_from (is_digit c) (list_all is_digit cs) (is_digit_from c r.0 r.1) h;
}

digits_numeral : IsNumeralModel (λ ds. list_all is_digit ds ≡ true) (value_after 0)
digits_numeral = numerals_by_fold _ digits_test value_after (search rules)

value_of_decimal : (n : ℕ) → n < 2 ^ 64 → value_after 0 (decimal n) ≡ n
value_of_decimal n h = digits_value-decimal digits_numeral n h

-- printing begins with no zero, but at 0
begins_well_from : (word : List ℕ) → 0 < length word → (get_or word 0 0 ≡ 48 → length word ≡ 1) → begins_well word ≡ true
begins_well_from [] some lead = absurd (omega arith)
begins_well_from (b ∷ []) some lead = refl
begins_well_from (b ∷ c ∷ bs) some lead = not_48 (b == 48) b refl (λ e. let l : length (b ∷ c ∷ bs) ≡ 1 = lead e in omega arith)

begins_well_to : (word : List ℕ) → begins_well word ≡ true → (0 < length word) × (get_or word 0 0 ≡ 48 → length word ≡ 1)
begins_well_to [] h = cc
begins_well_to (b ∷ []) h = (omega arith, λ _. refl)
begins_well_to (b ∷ c ∷ bs) h = (omega arith, λ e. absurd (both_ways (b == 48) (not-true (b == 48) h) (eq-eqb b 48 e)))

some_at : (word : List ℕ) → 48 < get_or word 0 0 → 0 < length word
some_at [] h = absurd (omega arith)
some_at (b ∷ bs) h = omega arith

printed_begins_well : (n : ℕ) → n < 2 ^ 64 → begins_well (decimal n) ≡ true
printed_begins_well zero h = rw (decimal_digit 0 (omega arith)) refl
printed_begins_well (suc n) h =
    let lead : 48 < get_or (decimal (suc n)) 0 0 = first_decimal (suc n) (omega arith) h in
    begins_well_from (decimal (suc n)) (some_at (decimal (suc n)) lead) (λ e. absurd (omega (arith, e, lead)))

-- the text of a number is a decimal
pub printed_is_decimal : (n : ℕ) → n < 2 ^ 64 → is_decimal (decimal n) ≡ true
printed_is_decimal n h = and_from _ _ (printed_begins_well n h) (digits_decimal digits_numeral n h)

-- a number at most the bound is read from the word that prints it
pub reads_printed : (most n : ℕ) → most < 2 ^ 64 → n ≤ most → number_within most (decimal n) ≡ Some n
reads_printed most n small h =
    let fits : n < 2 ^ 64 = omega arith in
    let v : value_after 0 (decimal n) ≡ n = value_of_decimal n fits in
    sym (some_within most (decimal n) (printed_is_decimal n fits) (rw v h)) ∙ ap Some v

-- and from no other word
read_step : (v : Bool) (most n value : ℕ) (word : List ℕ) → v ≡ (is_decimal word && nat_le value most) → cond v (Some value) None ≡ Some n → (value ≡ n) × (is_decimal word ≡ true) × (value ≤ most)
read_step true most n value word e h =
    let p : (is_decimal word ≡ true) × (nat_le value most ≡ true) = and_parts _ _ (sym e) in
    (cc, p.0, leb-true value most p.1)
read_step false most n value word e h = cc

pub printed_again : (most n : ℕ) (word : List ℕ) → most < 2 ^ 64 → number_within most word ≡ Some n → (word ≡ decimal n) × (n ≤ most)
printed_again most n word small h =
    let p : (value_after 0 word ≡ n) × (is_decimal word ≡ true) × (value_after 0 word ≤ most) = read_step (is_decimal word && nat_le (value_after 0 word) most) most n (value_after 0 word) word refl h in
    let q : (begins_well word ≡ true) × (list_all is_digit word ≡ true) = and_parts _ _ p.1 in
    let b : (0 < length word) × (get_or word 0 0 ≡ 48 → length word ≡ 1) = begins_well_to word q.0 in
    let d : decimal (value_after 0 word) ≡ word = decimal-digits_value digits_numeral word q.1 b.0 b.1 (omega (arith, p.2)) in
    (sym d ∙ ap decimal p.0, omega (arith, p.0, p.2))
