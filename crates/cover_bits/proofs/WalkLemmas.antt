-- A walk over a row: the number that it meets next, and what is left after it.
use Rattle.std.proofs.Common.{◌≡◌, ℕ, ◌+◌, ◌*◌, ◌/◌, ◌%◌, ◌^◌, ◌<◌, ◌≤◌, ◌⊎◌, ◌==◌, nat_lt, nat_le, Bool, true, false, not, ◌&&◌, List, refl, sym, ◌∙◌, inl, inr, arith, w64}
use Rattle.std.specs.Prelude.{bit_and}
use Rattle.std.specs.Int.{bit_at, bit_not, trailing_zeros}
use Rattle.std.proofs.lemmas.Bool.{cases_eq, cases_lt, eq-eqb, eqb-true, ne_eqb, ltb-true, lt-leb, le-leb, leb-true, and_parts, and_from, both_ways, false_from_ne_true}
use Rattle.std.proofs.lemmas.Nat.Bits.{bit_at-trailing_zeros, bit_at_clear_same, bit_at_clear_other}
use Rattle.cover_bits.specs.declared.walk.Rest.{Rest}
use Rattle.cover_bits.specs.Parts.{in_row, to_come, IsFirstFrom, NoneFrom}
use Rattle.cover_bits.proofs.BitLemmas.{and-false, and-yes}

module _ (row : List ℕ) (rest : Rest) (some : 0 < rest.word) (small : rest.word < 2 ^ 64) where
  low : (trailing_zeros w64 rest.word < 64) × (bit_at rest.word (trailing_zeros w64 rest.word) ≡ 1) × ((b : ℕ) → b < trailing_zeros w64 rest.word → bit_at rest.word b ≡ 0)
  low = bit_at-trailing_zeros w64 rest.word some small

  -- the lowest bit of the word is the least number to come
  pub lowest : IsFirstFrom (to_come row rest) 0 (rest.place * 64 + trailing_zeros w64 rest.word)
  lowest =
      let b : ℕ = trailing_zeros w64 rest.word in
      let e : (rest.place * 64 + b) / 64 ≡ rest.place = let a = low.0 in omega arith in
      let f : (rest.place * 64 + b) % 64 ≡ b = let a = low.0 in omega arith in
      record {
        passes = rw (e, eq-eqb rest.place rest.place refl, f) (eq-eqb _ 1 low.1);
        from = omega arith;
        least = λ j a t. by j t (cases_eq rest.place (j / 64));
      }
    where
      inside : (j : ℕ) → rest.place ≡ j / 64 → bit_at rest.word (j % 64) ≡ 1 → (j % 64 < trailing_zeros w64 rest.word) ⊎ (trailing_zeros w64 rest.word ≤ j % 64) → rest.place * 64 + trailing_zeros w64 rest.word ≤ j
      inside j e one (inl x) = let z = low.2 (j % 64) x in absurd (omega arith)
      inside j e one (inr x) = omega arith

      by : (j : ℕ) → to_come row rest j ≡ true → (rest.place ≡ j / 64) ⊎ (rest.place ≡ j / 64 → ⊥) → rest.place * 64 + trailing_zeros w64 rest.word ≤ j
      by j t (inl e) = inside j e (eqb-true (bit_at rest.word (j % 64)) 1 (rw (eq-eqb rest.place (j / 64) e) at t)) (cases_lt (j % 64) (trailing_zeros w64 rest.word))
      by j t (inr d) =
          let later = ltb-true rest.place (j / 64) (and_parts (nat_lt rest.place (j / 64)) (in_row row j) (rw (ne_eqb rest.place (j / 64) d) at t)).0 in
          let a = low.0 in omega arith

  -- without that bit all others are to come
  pub without_lowest : (j : ℕ) → to_come row (record { word = bit_and rest.word (bit_not w64 (1 * 2 ^ trailing_zeros w64 rest.word % 2 ^ 64)); place = rest.place; first = rest.first }) j
      ≡ (to_come row rest j && not (j == rest.place * 64 + trailing_zeros w64 rest.word))
  without_lowest j = by (cases_eq rest.place (j / 64))
    where
      Left : Type 0
      Left = to_come row (record { word = bit_and rest.word (bit_not w64 (1 * 2 ^ trailing_zeros w64 rest.word % 2 ^ 64)); place = rest.place; first = rest.first }) j
          ≡ (to_come row rest j && not (j == rest.place * 64 + trailing_zeros w64 rest.word))

      here : rest.place ≡ j / 64 → (j % 64 ≡ trailing_zeros w64 rest.word) ⊎ (j % 64 ≡ trailing_zeros w64 rest.word → ⊥) → Left
      here e (inl f) =
          let same : j ≡ rest.place * 64 + trailing_zeros w64 rest.word = omega arith in
          rw (eq-eqb rest.place (j / 64) e, eq-eqb j (rest.place * 64 + trailing_zeros w64 rest.word) same, f, bit_at_clear_same w64 rest.word (trailing_zeros w64 rest.word) low.0)
          (sym (and-false _))
      here e (inr g) =
          let other : (j == rest.place * 64 + trailing_zeros w64 rest.word) ≡ false = ne_eqb j _ (λ s. g (let a = low.0 in omega arith)) in
          rw (eq-eqb rest.place (j / 64) e, other, bit_at_clear_other w64 rest.word (trailing_zeros w64 rest.word) low.0 (j % 64) (omega arith) g)
          (sym (and-yes _))

      by : (rest.place ≡ j / 64) ⊎ (rest.place ≡ j / 64 → ⊥) → Left
      by (inl e) = here e (cases_eq (j % 64) (trailing_zeros w64 rest.word))
      by (inr d) =
          let other : (j == rest.place * 64 + trailing_zeros w64 rest.word) ≡ false = ne_eqb j _ (λ s. d (let a = low.0 in omega arith)) in
          rw (ne_eqb rest.place (j / 64) d, other) (sym (and-yes _))

-- a test that passes the same numbers has the same first one
pub first_of_same : (test test2 : ℕ → Bool) → ((j : ℕ) → test j ≡ test2 j) → (k : ℕ) → IsFirstFrom test 0 k → IsFirstFrom test2 0 k
first_of_same test test2 same k f = record {
  passes = sym (same k) ∙ f.passes;
  from = f.from;
  least = λ j a t. f.least j a (same j ∙ t);
}

-- *all numbers of a row that were not met, from `start` on*

abbrev pub IsAhead : List ℕ → Rest → ℕ → Type 0
IsAhead row rest start = (j : ℕ) → to_come row rest j ≡ (nat_le start j && in_row row j)

module _ (row : List ℕ) (rest : Rest) (start : ℕ) (ahead : IsAhead row rest start) where
  pub first_ahead : (k : ℕ) → IsFirstFrom (to_come row rest) 0 k → IsFirstFrom (in_row row) start k
  first_ahead k f =
      let r = and_parts (nat_le start k) (in_row row k) (sym (ahead k) ∙ f.passes) in
      record {
        passes = r.1;
        from = leb-true start k r.0;
        least = λ j a t. f.least j (omega arith) (ahead j ∙ and_from _ _ (le-leb start j a) t);
      }

  pub none_ahead : NoneFrom (to_come row rest) 0 → NoneFrom (in_row row) start
  none_ahead none j a = false_from_ne_true (in_row row j) (λ t. both_ways (to_come row rest j) (none j (omega arith)) (ahead j ∙ and_from _ _ (le-leb start j a) t))

  pub ahead_after : (k : ℕ) (rest2 : Rest) → IsFirstFrom (to_come row rest) 0 k → ((j : ℕ) → to_come row rest2 j ≡ (to_come row rest j && not (j == k))) → IsAhead row rest2 (k + 1)
  ahead_after k rest2 f left j = left j ∙ rw (ahead j) (by (cases_lt k j))
    where
      g : IsFirstFrom (in_row row) start k
      g = first_ahead k f

      at : (j ≡ k) ⊎ (j ≡ k → ⊥) → j ≤ k → ((nat_le start j && in_row row j) && not (j == k)) ≡ (nat_le (k + 1) j && in_row row j)
      at (inl e) l = rw (eq-eqb j k e, lt-leb (k + 1) j (omega arith)) (and-false _)
      at (inr d) l =
          let no : (nat_le start j && in_row row j) ≡ false = false_from_ne_true _ (λ t. let r = and_parts (nat_le start j) (in_row row j) t in let m = g.least j (leb-true start j r.0) r.1 in d (omega arith)) in
          rw (no, lt-leb (k + 1) j (omega arith)) refl

      by : (k < j) ⊎ (j ≤ k) → ((nat_le start j && in_row row j) && not (j == k)) ≡ (nat_le (k + 1) j && in_row row j)
      by (inl l) =
          let a = g.from in
          rw (le-leb start j (omega arith), le-leb (k + 1) j (omega arith), ne_eqb j k (λ e. omega arith)) (and-yes _)
      by (inr l) = at (cases_eq j k) l
