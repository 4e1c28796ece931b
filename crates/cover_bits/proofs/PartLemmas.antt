-- Parts of a set: which numbers they have, alone and together with a row.
use Rattle.std.proofs.Common.{◌≡◌, ℕ, zero, suc, ◌+◌, ◌-◌, ◌*◌, ◌/◌, ◌%◌, ◌^◌, min, ◌<◌, ◌≤◌, ◌⊎◌, ◌==◌, nat_lt, nat_le, Bool, true, false, not, ◌&&◌, ◌||◌, List, [], ◌∷◌, length, get_or, take, drop, None, refl, sym, ap, ◌∙◌, inl, inr, arith, w64, le_refl}
use Rattle.std.specs.Prelude.{bit_and, count_ones}
use Rattle.std.specs.Int.{bit_at, bit_not, trailing_zeros}
use Rattle.std.proofs.lemmas.Bool.{false≢true, cases_eq, cases_lt, cases_order, eq-eqb, eqb-true, ne_eqb, lt-ltb, le-ltb, ltb-true, le-leb, lt-leb, leb-true, and_parts, and_from, and_right, or_cases, or_left, or_right, both_ways, false_from_ne_true}
use Rattle.std.proofs.lemmas.Nat.{ones-le, and_le_r, leading_top}
use Rattle.std.specs.Int.Count.{count_leading_zeros}
use Rattle.std.specs.Prelude.{Some, Option, IfSome}
use Rattle.std.proofs.lemmas.Nat.Bits.{bit_at-lt, bit_at_and, bit_at-zero, bit_at_not, bit_at_mask_inside, bit_at_mask_below, bit_at-trailing_zeros, bit_at_ones, bit_at_ones_above, bit_at_above, bit_at_cat_high}
use Rattle.cover_bits.specs.declared.sets.Part.{Part}
use Rattle.cover_bits.specs.Parts.{in_word, in_row, in_part, in_parts, in_both, ArePlaced, shared, shared_from, shared_below, IsFirstFrom, NoneFrom, IsLastBelow, NoneBelow}

bit_cases : (n i : ℕ) → (bit_at n i ≡ 0) ⊎ (bit_at n i ≡ 1)
bit_cases n i = by (cases_eq (bit_at n i) 0)
  where
    by : (bit_at n i ≡ 0) ⊎ (bit_at n i ≡ 0 → ⊥) → (bit_at n i ≡ 0) ⊎ (bit_at n i ≡ 1)
    by (inl e) = inl e
    by (inr d) = inr (let l = bit_at-lt n i in omega arith)

bits_and : (x p q : ℕ) → x ≡ min p q → (p ≡ 0) ⊎ (p ≡ 1) → (q ≡ 0) ⊎ (q ≡ 1) → (x == 1) ≡ ((p == 1) && (q == 1))
bits_and x p q h (inl e) f = let g : x ≡ 0 = omega arith in rw (g, e) refl
bits_and x p q h (inr e) (inl f) = let g : x ≡ 0 = omega arith in rw (g, e, f) refl
bits_and x p q h (inr e) (inr f) = let g : x ≡ 1 = omega arith in rw (g, e, f) refl

pub in_word_and : (a b i : ℕ) → in_word (bit_and a b) i ≡ (in_word a i && in_word b i)
in_word_and a b i = bits_and (bit_at (bit_and a b) i) (bit_at a i) (bit_at b i) (bit_at_and a b i) (bit_cases a i) (bit_cases b i)

bit_turned : (x p : ℕ) → x ≡ 1 - p → (p ≡ 0) ⊎ (p ≡ 1) → (x == 1) ≡ not (p == 1)
bit_turned x p h (inl e) = let g : x ≡ 1 = omega arith in rw (g, e) refl
bit_turned x p h (inr e) = let g : x ≡ 0 = omega arith in rw (g, e) refl

pub in_word_not : (a i : ℕ) → a < 2 ^ 64 → i < 64 → in_word (bit_not w64 a) i ≡ not (in_word a i)
in_word_not a i small within = bit_turned (bit_at (bit_not w64 a) i) (bit_at a i) (bit_at_not w64 a i small within) (bit_cases a i)

pub has_no_bit : (i : ℕ) → in_word 0 i ≡ false
has_no_bit i = rw (bit_at-zero i) refl

in_word_mask : (b i : ℕ) → i < 64 → in_word (2 ^ 64 - 2 ^ b) i ≡ nat_le b i
in_word_mask b i within = by (cases_lt i b)
  where
    by : (i < b) ⊎ (b ≤ i) → in_word (2 ^ 64 - 2 ^ b) i ≡ nat_le b i
    by (inl l) = rw (bit_at_mask_below b 64 i l) (sym (lt-leb b i l))
    by (inr l) = rw (bit_at_mask_inside b 64 i l within) (sym (le-leb b i l))

pub few_ones : (a b : ℕ) → b < 2 ^ 64 → count_ones (bit_and a b) ≤ 64
few_ones a b small = ones-le 64 (bit_and a b) (omega (arith, and_le_r a b))

-- the bits of the word that a part shares with a row, without the numbers below `start`
pub has_shared : (row : List ℕ) (start j : ℕ) (part : Part) → part.place ≡ j / 64
    → in_word (shared_from row start part) (j % 64) ≡ (nat_le start j && (in_word part.word (j % 64) && in_row row j))
has_shared row start j part e = by (cases_order (start / 64) part.place)
  where
    both : in_word (shared row part) (j % 64) ≡ (in_word part.word (j % 64) && in_row row j)
    both = in_word_and part.word (get_or row part.place 0) (j % 64) ∙ rw e refl

    by : (start / 64 ≡ part.place) ⊎ ((start / 64 < part.place) ⊎ (part.place < start / 64)) → in_word (shared_from row start part) (j % 64) ≡ (nat_le start j && (in_word part.word (j % 64) && in_row row j))
    by (inr (inl l)) = rw (lt-ltb (start / 64) part.place l, le-leb start j (omega arith)) both
    by (inr (inr l)) = rw (le-ltb (start / 64) part.place (omega arith), ne_eqb part.place (start / 64) (λ f. omega arith), lt-leb start j (omega arith)) (has_no_bit (j % 64))
    by (inl f) =
        rw (le-ltb (start / 64) part.place (omega arith), eq-eqb part.place (start / 64) (sym f))
        (in_word_and (shared row part) (2 ^ 64 - 2 ^ (start % 64)) (j % 64) ∙ rw (both, in_word_mask (start % 64) (j % 64) (omega arith)) (turned (cases_lt j start)))
      where
        turned : (j < start) ⊎ (start ≤ j) → ((in_word part.word (j % 64) && in_row row j) && nat_le (start % 64) (j % 64)) ≡ (nat_le start j && (in_word part.word (j % 64) && in_row row j))
        turned (inl l) = rw (lt-leb start j l, lt-leb (start % 64) (j % 64) (omega arith)) (and_right _ false refl)
        turned (inr l) = rw (le-leb start j l, le-leb (start % 64) (j % 64) (omega arith)) (yes _)
          where
            yes : (b : Bool) → (b && true) ≡ b
            yes true = refl
            yes false = refl

-- *where parts stand*

pub in_split : (parts : List Part) (i j : ℕ) (d : Part) → i < length parts → in_parts parts j ≡ (in_parts (take i parts) j || (in_part j (get_or parts i d) || in_parts (drop (suc i) parts) j))
in_split [] i j d l = absurd (omega arith)
in_split (x ∷ xs) zero j d l = refl
in_split (x ∷ xs) (suc i) j d l = by (in_part j x) (in_split xs i j d (omega arith))
  where
    by : (b : Bool) → in_parts xs j ≡ (in_parts (take i xs) j || (in_part j (get_or xs i d) || in_parts (drop (suc i) xs) j))
        → (b || in_parts xs j) ≡ ((b || in_parts (take i xs) j) || (in_part j (get_or xs i d) || in_parts (drop (suc i) xs) j))
    by true ih = refl
    by false ih = ih

pub in_more : (parts : List Part) (i j : ℕ) (d : Part) → i < length parts → in_parts (take (suc i) parts) j ≡ (in_parts (take i parts) j || in_part j (get_or parts i d))
in_more [] i j d l = absurd (omega arith)
in_more (x ∷ xs) zero j d l = or-none (in_part j x)
  where
    or-none : (b : Bool) → (b || false) ≡ b
    or-none true = refl
    or-none false = refl
in_more (x ∷ xs) (suc i) j d l = by (in_part j x) (in_more xs i j d (omega arith))
  where
    by : (b : Bool) → in_parts (take (suc i) xs) j ≡ (in_parts (take i xs) j || in_part j (get_or xs i d)) → (b || in_parts (take (suc i) xs) j) ≡ ((b || in_parts (take i xs) j) || in_part j (get_or xs i d))
    by true ih = refl
    by false ih = ih

pub placed_at : (n w : ℕ) (parts : List Part) → ArePlaced n w parts → (i : ℕ) (d : Part) → i < length parts → ((get_or parts i d).place < w) × ((get_or parts i d).word < 2 ^ 64)
placed_at n w [] p i d l = absurd (omega arith)
placed_at n w (x ∷ xs) p zero d l = (p.1, p.2)
placed_at n w (x ∷ xs) p (suc i) d l = placed_at (suc x.place) w xs p.3 i d (omega arith)

placed_after : (n w : ℕ) (parts : List Part) → ArePlaced n w parts → (i : ℕ) (d : Part) → i < length parts → ArePlaced (suc (get_or parts i d).place) w (drop (suc i) parts)
placed_after n w [] p i d l = absurd (omega arith)
placed_after n w (x ∷ xs) p zero d l = p.3
placed_after n w (x ∷ xs) p (suc i) d l = placed_after (suc x.place) w xs p.3 i d (omega arith)

-- a number of parts lies from the first one's place on, and within the row
pub placed_in : (n w : ℕ) (parts : List Part) → ArePlaced n w parts → (j : ℕ) → in_parts parts j ≡ true → (n ≤ j / 64) × (j / 64 < w)
placed_in n w [] p j h = absurd (false≢true h)
placed_in n w (x ∷ xs) p j h = by (placed_in (suc x.place) w xs p.3 j) (or_cases (in_part j x) (in_parts xs j) h)
  where
    by : (in_parts xs j ≡ true → (suc x.place ≤ j / 64) × (j / 64 < w)) → (in_part j x ≡ true) ⊎ (in_parts xs j ≡ true) → (n ≤ j / 64) × (j / 64 < w)
    by ih (inl m) = let e = eqb-true x.place (j / 64) (and_parts (x.place == j / 64) (in_word x.word (j % 64)) m).0 in let a = p.0 in let b = p.1 in (omega arith, omega arith)
    by ih (inr m) = let r = ih m in let a = p.0 in let b = r.0 in (omega arith, r.1)

-- *the first number from one on*

module _ (parts : List Part) (row : List ℕ) (start i : ℕ) (d : Part) (l : i < length parts) (before : NoneFrom (in_both (take i parts) row) start) where
  here : Part
  here = get_or parts i d

  -- what the part has with the row is a bit of their word
  met : (j : ℕ) → start ≤ j → in_part j (get_or parts i d) ≡ true → in_row row j ≡ true → in_word (shared_from row start (get_or parts i d)) (j % 64) ≡ true
  met j a m r =
      let q = and_parts ((get_or parts i d).place == j / 64) (in_word (get_or parts i d).word (j % 64)) m in
      has_shared row start j (get_or parts i d) (eqb-true (get_or parts i d).place (j / 64) q.0) ∙ rw (le-leb start j a, q.1, r) refl

  pub none_more : shared_from row start (get_or parts i d) ≡ 0 → NoneFrom (in_both (take (suc i) parts) row) start
  none_more z j a = false_from_ne_true (in_both (take (suc i) parts) row j) (λ t. by t (and_parts (in_parts (take (suc i) parts) j) (in_row row j) t))
    where
      step : in_row row j ≡ true → (in_parts (take i parts) j ≡ true) ⊎ (in_part j (get_or parts i d) ≡ true) → ⊥
      step r (inl m) = both_ways (in_both (take i parts) row j) (before j a) (and_from (in_parts (take i parts) j) (in_row row j) m r)
      step r (inr m) = both_ways (in_word (shared_from row start (get_or parts i d)) (j % 64)) (ap (λ x. in_word x (j % 64)) z ∙ has_no_bit (j % 64)) (met j a m r)

      by : in_both (take (suc i) parts) row j ≡ true → (in_parts (take (suc i) parts) j ≡ true) × (in_row row j ≡ true) → ⊥
      by t q = step q.1 (or_cases (in_parts (take i parts) j) (in_part j (get_or parts i d)) (sym (in_more parts i j d l) ∙ q.0))

  module _ (w : ℕ) (placed : ArePlaced 0 w parts) (word : ℕ) (is : word ≡ shared_from row start (get_or parts i d)) (some : 0 < word) (small : word < 2 ^ 64) where
    low : (trailing_zeros w64 word < 64) × (bit_at word (trailing_zeros w64 word) ≡ 1) × ((b : ℕ) → b < trailing_zeros w64 word → bit_at word b ≡ 0)
    low = bit_at-trailing_zeros w64 word some small

    pub found : IsFirstFrom (in_both parts row) start ((get_or parts i d).place * 64 + trailing_zeros w64 word)
    found =
        let b : ℕ = trailing_zeros w64 word in
        let e : ((get_or parts i d).place * 64 + b) / 64 ≡ (get_or parts i d).place = let a = low.0 in omega arith in
        let f : ((get_or parts i d).place * 64 + b) % 64 ≡ b = let a = low.0 in omega arith in
        let set : in_word (shared_from row start (get_or parts i d)) (((get_or parts i d).place * 64 + b) % 64) ≡ true = rw (sym is, f) (eq-eqb _ 1 low.1) in
        let here = has_shared row start ((get_or parts i d).place * 64 + b) (get_or parts i d) (sym e) in
        let all = and_parts _ _ (sym here ∙ set) in
        let bits = and_parts _ _ all.1 in
        let mine : in_part ((get_or parts i d).place * 64 + b) (get_or parts i d) ≡ true = and_from _ _ (eq-eqb _ _ (sym e)) bits.0 in
        record {
          passes = and_from _ _ (in_split parts i ((get_or parts i d).place * 64 + b) d l ∙ or_right _ _ (or_left _ _ mine)) bits.1;
          from = leb-true start _ all.0;
          least = λ j a t. let r = and_parts (in_parts parts j) (in_row row j) t in past j a r.1 (or_cases _ _ (sym (in_split parts i j d l) ∙ r.0));
        }
      where
        inside : (j : ℕ) → start ≤ j → in_row row j ≡ true → in_part j (get_or parts i d) ≡ true → (get_or parts i d).place * 64 + trailing_zeros w64 word ≤ j
        inside j a r m = by (cases_lt (j % 64) (trailing_zeros w64 word))
          where
            at : (get_or parts i d).place ≡ j / 64
            at = eqb-true _ _ (and_parts ((get_or parts i d).place == j / 64) (in_word (get_or parts i d).word (j % 64)) m).0

            one : bit_at word (j % 64) ≡ 1
            one = eqb-true (bit_at word (j % 64)) 1 (rw is (met j a m r))

            by : (j % 64 < trailing_zeros w64 word) ⊎ (trailing_zeros w64 word ≤ j % 64) → (get_or parts i d).place * 64 + trailing_zeros w64 word ≤ j
            by (inl x) = let z = low.2 (j % 64) x in let o = one in absurd (omega arith)
            by (inr x) = let y = at in omega arith

        later : (j : ℕ) → start ≤ j → in_row row j ≡ true → (in_part j (get_or parts i d) ≡ true) ⊎ (in_parts (drop (suc i) parts) j ≡ true) → (get_or parts i d).place * 64 + trailing_zeros w64 word ≤ j
        later j a r (inl m) = inside j a r m
        later j a r (inr m) =
            let q = placed_in (suc (get_or parts i d).place) w (drop (suc i) parts) (placed_after 0 w parts placed i d l) j m in
            let x = low.0 in let y = q.0 in omega arith

        past : (j : ℕ) → start ≤ j → in_row row j ≡ true → (in_parts (take i parts) j ≡ true) ⊎ ((in_part j (get_or parts i d) || in_parts (drop (suc i) parts) j) ≡ true) → (get_or parts i d).place * 64 + trailing_zeros w64 word ≤ j
        past j a r (inl m) = absurd (both_ways (in_both (take i parts) row j) (before j a) (and_from (in_parts (take i parts) j) (in_row row j) m r))
        past j a r (inr m) = later j a r (or_cases (in_part j (get_or parts i d)) (in_parts (drop (suc i) parts) j) m)

-- *the last number below one*

in_word_low : (b i : ℕ) → in_word (2 ^ b - 1) i ≡ nat_lt i b
in_word_low b i = by (cases_lt i b)
  where
    by : (i < b) ⊎ (b ≤ i) → in_word (2 ^ b - 1) i ≡ nat_lt i b
    by (inl l) = rw (bit_at_ones b i l) (sym (lt-ltb i b l))
    by (inr l) = rw (bit_at_ones_above b i l) (sym (le-ltb i b l))

and-yes : (b : Bool) → (b && true) ≡ b
and-yes true = refl
and-yes false = refl

pub has_shared_low : (row : List ℕ) (end j : ℕ) (part : Part) → part.place ≡ j / 64
    → in_word (shared_below row end part) (j % 64) ≡ (nat_lt j end && (in_word part.word (j % 64) && in_row row j))
has_shared_low row end j part e = by (cases_order (end / 64) part.place)
  where
    both : in_word (shared row part) (j % 64) ≡ (in_word part.word (j % 64) && in_row row j)
    both = in_word_and part.word (get_or row part.place 0) (j % 64) ∙ rw e refl

    by : (end / 64 ≡ part.place) ⊎ ((end / 64 < part.place) ⊎ (part.place < end / 64)) → in_word (shared_below row end part) (j % 64) ≡ (nat_lt j end && (in_word part.word (j % 64) && in_row row j))
    by (inr (inr l)) = rw (lt-ltb part.place (end / 64) l, lt-ltb j end (omega arith)) both
    by (inr (inl l)) = rw (le-ltb part.place (end / 64) (omega arith), ne_eqb part.place (end / 64) (λ f. omega arith), le-ltb j end (omega arith)) (has_no_bit (j % 64))
    by (inl f) =
        rw (le-ltb part.place (end / 64) (omega arith), eq-eqb part.place (end / 64) (sym f))
        (in_word_and (shared row part) (2 ^ (end % 64) - 1) (j % 64) ∙ rw (both, in_word_low (end % 64) (j % 64)) (turned (cases_lt j end)))
      where
        turned : (j < end) ⊎ (end ≤ j) → ((in_word part.word (j % 64) && in_row row j) && nat_lt (j % 64) (end % 64)) ≡ (nat_lt j end && (in_word part.word (j % 64) && in_row row j))
        turned (inl l) = rw (lt-ltb j end l, lt-ltb (j % 64) (end % 64) (omega arith)) (and-yes _)
        turned (inr l) = rw (le-ltb j end l, le-ltb (j % 64) (end % 64) (omega arith)) (and_right _ false refl)

-- the highest bit
pub high_bit : (word : ℕ) → 0 < word → word < 2 ^ 64 → let b = 63 - count_leading_zeros 64 word in
    (count_leading_zeros 64 word ≤ 63) × (bit_at word b ≡ 1) × ((i : ℕ) → b < i → bit_at word i ≡ 0)
high_bit word some small =
    let t = leading_top 64 word some small in
    let e : 63 - count_leading_zeros 64 word ≡ t.0 = let s = t.1 in omega arith in (
      let s = t.1 in omega arith,
      rw e (one t.0 t.2 t.3),
      λ i l. bit_at_above word (suc t.0) i t.3 (omega arith),
    )
  where
    one : (j : ℕ) → 2 ^ j ≤ word → word < 2 ^ suc j → bit_at word j ≡ 1
    one j a b =
        let p : 2 ^ suc j ≡ 2 * 2 ^ j = omega arith in
        let e : word ≡ 1 * 2 ^ j + (word - 2 ^ j) = omega arith in
        let f : j - j ≡ 0 = omega arith in
        ap (λ x. bit_at x j) e ∙ bit_at_cat_high 1 j (word - 2 ^ j) j (omega arith) (le_refl j) ∙ rw f refl

-- what is known once so many parts were gone through
pub record IsLastSo (parts : List Part) (row : List ℕ) (end : ℕ) (last : Option ℕ) : Type 0 where
  pub some : IfSome last (λ k. IsLastBelow (in_both parts row) end k)
  pub none : last ≡ None → NoneBelow (in_both parts row) end

-- a number of the parts before one lies below its place
placed_before : (n w : ℕ) (parts : List Part) → ArePlaced n w parts → (i j : ℕ) (d : Part) → i < length parts → in_parts (take i parts) j ≡ true → j / 64 < (get_or parts i d).place
placed_before n w [] p i j d l h = absurd (omega arith)
placed_before n w (x ∷ xs) p zero j d l h = absurd (false≢true h)
placed_before n w (x ∷ xs) p (suc i) j d l h = by (placed_before (suc x.place) w xs p.3 i j d (omega arith)) (or_cases (in_part j x) (in_parts (take i xs) j) h)
  where
    first : (n : ℕ) (ys : List Part) → ArePlaced n w ys → (k : ℕ) → k < length ys → n ≤ (get_or ys k d).place
    first n [] q k m = absurd (omega arith)
    first n (y ∷ ys) q zero m = q.0
    first n (y ∷ ys) q (suc k) m = let a = q.0 in let b = first (suc y.place) ys q.3 k (omega arith) in omega arith

    by : (in_parts (take i xs) j ≡ true → j / 64 < (get_or xs i d).place) → (in_part j x ≡ true) ⊎ (in_parts (take i xs) j ≡ true) → j / 64 < (get_or xs i d).place
    by ih (inl m) =
        let e = eqb-true x.place (j / 64) (and_parts (x.place == j / 64) (in_word x.word (j % 64)) m).0 in
        let f = first (suc x.place) xs p.3 i (omega arith) in omega arith
    by ih (inr m) = ih m

module _ (parts : List Part) (row : List ℕ) (end i : ℕ) (d : Part) (l : i < length parts) (last : Option ℕ) (so : IsLastSo (take i parts) row end last) where
  -- what the part has with the row is a bit of their word
  met_low : (j : ℕ) → j < end → in_part j (get_or parts i d) ≡ true → in_row row j ≡ true → in_word (shared_below row end (get_or parts i d)) (j % 64) ≡ true
  met_low j a m r =
      let q = and_parts ((get_or parts i d).place == j / 64) (in_word (get_or parts i d).word (j % 64)) m in
      has_shared_low row end j (get_or parts i d) (eqb-true (get_or parts i d).place (j / 64) q.0) ∙ rw (lt-ltb j end a, q.1, r) refl

  pub last_kept : shared_below row end (get_or parts i d) ≡ 0 → IsLastSo (take (suc i) parts) row end last
  last_kept z = record {
    some = some_kept last so.some;
    none = λ e j a. same j a ∙ so.none e j a;
  }
    where
      not_in : (j : ℕ) → j < end → in_row row j ≡ true → in_part j (get_or parts i d) ≡ false
      not_in j a r = false_from_ne_true _ (λ m. both_ways (in_word (shared_below row end (get_or parts i d)) (j % 64)) (ap (λ x. in_word x (j % 64)) z ∙ has_no_bit (j % 64)) (met_low j a m r))

      or-none : (b : Bool) → (b || false) ≡ b
      or-none true = refl
      or-none false = refl

      same : (j : ℕ) → j < end → in_both (take (suc i) parts) row j ≡ in_both (take i parts) row j
      same j a = by (in_row row j) refl
        where
          by : (r : Bool) → in_row row j ≡ r → (in_parts (take (suc i) parts) j && in_row row j) ≡ (in_parts (take i parts) j && in_row row j)
          by true r = rw r (ap (λ b. b && true) (in_more parts i j d l ∙ ap (λ b. in_parts (take i parts) j || b) (not_in j a r) ∙ or-none _))
          by false r = rw r (and_right _ false refl ∙ sym (and_right _ false refl))

      some_kept : (o : Option ℕ) → IfSome o (λ k. IsLastBelow (in_both (take i parts) row) end k) → IfSome o (λ k. IsLastBelow (in_both (take (suc i) parts) row) end k)
      some_kept None h = tt
      some_kept (Some k) h = record {
        passes = same k h.below ∙ h.passes;
        below = h.below;
        greatest = λ j a t. h.greatest j a (sym (same j a) ∙ t);
      }

  module _ (w : ℕ) (placed : ArePlaced 0 w parts) (word : ℕ) (is : word ≡ shared_below row end (get_or parts i d)) (some : 0 < word) (small : word < 2 ^ 64) where
    high : (count_leading_zeros 64 word ≤ 63) × (bit_at word (63 - count_leading_zeros 64 word) ≡ 1) × ((b : ℕ) → 63 - count_leading_zeros 64 word < b → bit_at word b ≡ 0)
    high = high_bit word some small

    pub last_found : IsLastSo (take (suc i) parts) row end (Some ((get_or parts i d).place * 64 + (63 - count_leading_zeros 64 word)))
    last_found =
        let b : ℕ = 63 - count_leading_zeros 64 word in
        let e : ((get_or parts i d).place * 64 + b) / 64 ≡ (get_or parts i d).place = omega arith in
        let f : ((get_or parts i d).place * 64 + b) % 64 ≡ b = omega arith in
        let set : in_word (shared_below row end (get_or parts i d)) (((get_or parts i d).place * 64 + b) % 64) ≡ true = rw (sym is, f) (eq-eqb _ 1 high.1) in
        let here = has_shared_low row end ((get_or parts i d).place * 64 + b) (get_or parts i d) (sym e) in
        let all = and_parts _ _ (sym here ∙ set) in
        let bits = and_parts _ _ all.1 in
        let mine : in_part ((get_or parts i d).place * 64 + b) (get_or parts i d) ≡ true = and_from _ _ (eq-eqb _ _ (sym e)) bits.0 in
        record {
          some = record {
            passes = and_from _ _ (in_more parts i ((get_or parts i d).place * 64 + b) d l ∙ or_right _ _ mine) bits.1;
            below = ltb-true _ end all.0;
            greatest = λ j a t. let r = and_parts (in_parts (take (suc i) parts) j) (in_row row j) t in past j a r.1 (or_cases _ _ (sym (in_more parts i j d l) ∙ r.0));
          };
          none = λ n. absurd (cc);
        }
      where
        inside : (j : ℕ) → j < end → in_row row j ≡ true → in_part j (get_or parts i d) ≡ true → j ≤ (get_or parts i d).place * 64 + (63 - count_leading_zeros 64 word)
        inside j a r m = by (cases_lt (63 - count_leading_zeros 64 word) (j % 64))
          where
            at : (get_or parts i d).place ≡ j / 64
            at = eqb-true _ _ (and_parts ((get_or parts i d).place == j / 64) (in_word (get_or parts i d).word (j % 64)) m).0

            one : bit_at word (j % 64) ≡ 1
            one = eqb-true (bit_at word (j % 64)) 1 (rw is (met_low j a m r))

            by : (63 - count_leading_zeros 64 word < j % 64) ⊎ (j % 64 ≤ 63 - count_leading_zeros 64 word) → j ≤ (get_or parts i d).place * 64 + (63 - count_leading_zeros 64 word)
            by (inl x) = let z = high.2 (j % 64) x in let o = one in absurd (omega arith)
            by (inr x) = let y = at in omega arith

        past : (j : ℕ) → j < end → in_row row j ≡ true → (in_parts (take i parts) j ≡ true) ⊎ (in_part j (get_or parts i d) ≡ true) → j ≤ (get_or parts i d).place * 64 + (63 - count_leading_zeros 64 word)
        past j a r (inl m) = let y = placed_before 0 w parts placed i j d l m in omega arith
        past j a r (inr m) = inside j a r m

-- *a row alone: a part that has all numbers of its place*

has_all : (i : ℕ) → i < 64 → in_word (2 ^ 64 - 1) i ≡ true
has_all i l = rw (bit_at_ones 64 i l) refl

module _ (row : List ℕ) (start place word : ℕ) (is : word ≡ shared_from row start (record { word = 2 ^ 64 - 1; place = place })) where
  bit_is : (j : ℕ) → place ≡ j / 64 → in_word word (j % 64) ≡ (nat_le start j && in_row row j)
  bit_is j e =
      ap (λ x. in_word x (j % 64)) is ∙ has_shared row start j (record { word = 2 ^ 64 - 1; place = place }) e
      ∙ ap (λ b. nat_le start j && (b && in_row row j)) (has_all (j % 64) (omega arith))

  pub none_here : word ≡ 0 → (j : ℕ) → start ≤ j → place ≡ j / 64 → in_row row j ≡ false
  none_here z j a e = sym (rw (le-leb start j a) at (bit_is j e)) ∙ ap (λ x. in_word x (j % 64)) z ∙ has_no_bit (j % 64)

  pub none_up : ((j : ℕ) → start ≤ j → j / 64 < place → in_row row j ≡ false) → word ≡ 0 → (j : ℕ) → start ≤ j → j / 64 < suc place → in_row row j ≡ false
  none_up before z j a l = by (cases_lt (j / 64) place)
    where
      by : (j / 64 < place) ⊎ (place ≤ j / 64) → in_row row j ≡ false
      by (inl m) = before j a m
      by (inr m) = none_here z j a (omega arith)

  pub found_here : ((j : ℕ) → start ≤ j → j / 64 < place → in_row row j ≡ false) → 0 < word → word < 2 ^ 64 → IsFirstFrom (in_row row) start (place * 64 + trailing_zeros w64 word)
  found_here before some small =
      let low = bit_at-trailing_zeros w64 word some small in
      let b : ℕ = trailing_zeros w64 word in
      let e : place ≡ (place * 64 + b) / 64 = let a = low.0 in omega arith in
      let f : (place * 64 + b) % 64 ≡ b = let a = low.0 in omega arith in
      let set : in_word word ((place * 64 + b) % 64) ≡ true = rw f (eq-eqb _ 1 low.1) in
      let all = and_parts _ _ (sym (bit_is (place * 64 + b) e) ∙ set) in
      record {
        passes = all.1;
        from = leb-true start _ all.0;
        least = λ j a t. past low j a t (cases_order (j / 64) place);
      }
    where
      past : ((trailing_zeros w64 word < 64) × (bit_at word (trailing_zeros w64 word) ≡ 1) × ((b : ℕ) → b < trailing_zeros w64 word → bit_at word b ≡ 0))
          → (j : ℕ) → start ≤ j → in_row row j ≡ true → (j / 64 ≡ place) ⊎ ((j / 64 < place) ⊎ (place < j / 64)) → place * 64 + trailing_zeros w64 word ≤ j
      past low j a t (inr (inl m)) = absurd (both_ways (in_row row j) (before j a m) t)
      past low j a t (inr (inr m)) = let x = low.0 in omega arith
      past low j a t (inl m) = by (cases_lt (j % 64) (trailing_zeros w64 word))
        where
          one : bit_at word (j % 64) ≡ 1
          one = eqb-true (bit_at word (j % 64)) 1 (bit_is j (sym m) ∙ rw (le-leb start j a, t) refl)

          by : (j % 64 < trailing_zeros w64 word) ⊎ (trailing_zeros w64 word ≤ j % 64) → place * 64 + trailing_zeros w64 word ≤ j
          by (inl x) = let z = low.2 (j % 64) x in let o = one in absurd (omega arith)
          by (inr x) = omega arith
