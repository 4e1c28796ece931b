-- A word with a `+` is the symbols before it, the `+`, and the symbols after it.
use Rattle.std.proofs.Common.{◌≡◌, ◌<◌, ℕ, suc, ◌+◌, ◌-◌, ◌==◌, List, [], ◌∷◌, ◌++◌, take, drop, length, get_or, true, false, cond, not, refl, sym, ap, ◌∙◌, subst, arith, eqb-true, ltb-true, lt-ltb, length-append}
use Rattle.std.specs.List.{list_all, position_or_len}
use Rattle.std.proofs.lemmas.Bool.{and_parts, both_ways, false_from_ne_true}
use Rattle.std.proofs.lemmas.List.{drop_more, take-append-drop}
use Rattle.std.proofs.lemmas.List.Sums.{passes_at_first}
use Rattle.std.proofs.Math.Seq.{drop-append_seam}
use Rattle.poly_texts.specs.Words.{is_name, plus_at, has_plus, before_plus, after_plus}

take_front : (xs ys : List ℕ) → take (length xs) (xs ++ ys) ≡ xs
take_front [] ys = refl
take_front (x ∷ xs) ys = ap (λ zs. x ∷ zs) (take_front xs ys)

drop_front : (xs ys : List ℕ) (y : ℕ) → drop (suc (length xs)) (xs ++ y ∷ ys) ≡ ys
drop_front [] ys y = refl
drop_front (x ∷ xs) ys y = drop_front xs ys y

-- no name is a `+`
plus_apart : (b : ℕ) → is_name b ≡ true → (b == 43) ≡ false
plus_apart b h = false_from_ne_true _ (λ t. both_ways (is_name 43) refl (subst (λ (c : ℕ). is_name c ≡ true) (eqb-true b 43 t) h))

at_end : (names : List ℕ) → list_all is_name names ≡ true → plus_at names ≡ length names
unfolding plus_at
at_end [] h = refl
at_end (n ∷ ns) h =
    let p = and_parts (is_name n) (list_all is_name ns) h in
    let rest = at_end ns p.1 in
    ap (λ b. cond (not b) (1 + position_or_len (λ c. c == 43) ns) 0) (plus_apart n p.0) ∙ omega (arith, rest)

-- names have no `+`
pub plus_none : (names : List ℕ) → list_all is_name names ≡ true → has_plus names ≡ false
plus_none names h = false_from_ne_true _ (λ t. let e = at_end names h in let lt = ltb-true (plus_at names) (length names) t in omega (arith, e, lt))

module _ (spare : List ℕ) where
  after_names : (names : List ℕ) → list_all is_name names ≡ true → plus_at (names ++ 43 ∷ spare) ≡ length names
  unfolding plus_at
  after_names [] h = refl
  after_names (n ∷ ns) h =
      let p = and_parts (is_name n) (list_all is_name ns) h in
      let rest = after_names ns p.1 in
      ap (λ b. cond (not b) (1 + position_or_len (λ c. c == 43) (ns ++ 43 ∷ spare)) 0) (plus_apart n p.0) ∙ omega (arith, rest)

  longer : (names : List ℕ) → length names < length (names ++ 43 ∷ spare)
  longer [] = omega arith
  longer (n ∷ ns) = let rest = longer ns in omega (arith, rest)

  -- names, a `+` and others are read as such
  pub plus_again : (names : List ℕ) → list_all is_name names ≡ true
      → (has_plus (names ++ 43 ∷ spare) ≡ true) × (before_plus (names ++ 43 ∷ spare) ≡ names) × (after_plus (names ++ 43 ∷ spare) ≡ spare)
  plus_again names h =
      let e = after_names names h in
      let l = longer names in (
        lt-ltb (plus_at (names ++ 43 ∷ spare)) (length (names ++ 43 ∷ spare)) (omega (arith, e, l)),
        ap (λ k. take k (names ++ 43 ∷ spare)) e ∙ take_front names (43 ∷ spare),
        ap (λ k. drop k (names ++ 43 ∷ spare)) (more (plus_at (names ++ 43 ∷ spare)) (length names) e) ∙ drop_front names spare 43,
      )
    where
      more : (k n : ℕ) → k ≡ n → k + 1 ≡ suc n
      more k n e = omega (arith, e)

-- the parts of a word with a `+`
pub plus_is : (word : List ℕ) → has_plus word ≡ true → word ≡ before_plus word ++ 43 ∷ after_plus word
unfolding plus_at
plus_is word h =
    let k = plus_at word in
    let within : k < length word = ltb-true k (length word) h in
    let here : get_or word k 0 ≡ 43 = eqb-true (get_or word k 0) 43 (passes_at_first (λ b. b == 43) word 0 within) in
    sym (take-append-drop k word) ∙ ap (λ rest. take k word ++ rest) (drop_more word k 0 within ∙ ap (λ b. b ∷ drop (k + 1) word) here)

-- first ones and others are parted again
pub parted_again : (xs ys : List ℕ) → (take (length (xs ++ ys) - length ys) (xs ++ ys) ≡ xs) × (drop (length (xs ++ ys) - length ys) (xs ++ ys) ≡ ys)
parted_again xs ys =
    let l = length-append xs ys in
    let e : length (xs ++ ys) - length ys ≡ length xs = omega (arith, l) in
    (ap (λ n. take n (xs ++ ys)) e ∙ take_front xs ys, ap (λ n. drop n (xs ++ ys)) e ∙ drop-append_seam xs ys)
