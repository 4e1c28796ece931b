-- A loop over numbers that keeps those with a property.
use Rattle.std.proofs.Common.{◌≡◌, ℕ, ◌+◌, ◌<◌, List, [], ◌∷◌, ◌++◌, length, get_or, ◌↔◌, ◌⊎◌, inl, inr, sym, subst, arith, length-append}
use Rattle.std.specs.List.Sorted.{IsStrictlyIncreasing}
use Rattle.poly_cells.specs.Sets.{IsIn}
use Rattle.poly_cells.proofs.SetLemmas.{in_append_cases, in_append_left, in_append_right, in_at}
use Rattle.std.proofs.lemmas.List.{get_or_append_left, get_or_push}

-- the list has exactly the numbers below n with the property
abbrev pub AreThose : (ℕ → Type 0) → ℕ → List ℕ → Type 0
AreThose P n xs = (m : ℕ) → IsIn m xs ↔ ((m < n) × P m)

last_or_before : (m n : ℕ) → m < n + 1 → (m < n) ⊎ (m ≡ n)
last_or_before m n h = grind arith

pub those_more : (P : ℕ → Type 0) (n : ℕ) (xs ys : List ℕ) → ys ≡ xs ++ n ∷ [] → P n → AreThose P n xs → AreThose P (n + 1) ys
those_more P n xs ys is here so m = (
  (λ i. elim (in_append_cases m xs (n ∷ []) (subst (IsIn m) is i)) [
    | inl l ↦ let h = (so m).0 l in let lt = h.0 in (omega arith, h.1)
    | inr r ↦ elim r [ inl e ↦ (omega arith, subst P (sym e) here) | inr f ↦ absurd f ]
  ]),
  (λ h. subst (IsIn m) (sym is) (elim (last_or_before m n h.0) [
    | inl lt ↦ in_append_left m xs (n ∷ []) ((so m).1 (lt, h.1))
    | inr e ↦ in_append_right m xs (n ∷ []) (inl e)
  ])),
)

pub those_same : (P : ℕ → Type 0) (n : ℕ) (xs ys : List ℕ) → ys ≡ xs → (P n → ⊥) → AreThose P n xs → AreThose P (n + 1) ys
those_same P n xs ys is none so m = (
  (λ i. let h = (so m).0 (subst (IsIn m) is i) in let lt = h.0 in (omega arith, h.1)),
  (λ h. subst (IsIn m) (sym is) (elim (last_or_before m n h.0) [ inl lt ↦ (so m).1 (lt, h.1) | inr e ↦ absurd (none (subst P e h.1)) ])),
)

-- ---- the list rises

within_or_end : (k : ℕ) (xs : List ℕ) (n : ℕ) → k + 1 < length (xs ++ n ∷ []) → (k + 1 < length xs) ⊎ (k + 1 ≡ length xs)
within_or_end k xs n h = let e = length-append xs (n ∷ []) in grind arith

pub rises_more : (n : ℕ) (xs ys : List ℕ) → ys ≡ xs ++ n ∷ [] → ((m : ℕ) → IsIn m xs → m < n) → IsStrictlyIncreasing xs → IsStrictlyIncreasing ys
rises_more n xs ys is below up k h =
    subst (λ (zs : List ℕ). get_or zs k 0 < get_or zs (k + 1) 0) (sym is)
    (elim (within_or_end k xs n (subst (λ (zs : List ℕ). k + 1 < length zs) is h)) [
      | inl lt ↦
          let a = get_or_append_left xs (n ∷ []) 0 k (omega arith) in
          let b = get_or_append_left xs (n ∷ []) 0 (k + 1) lt in
          let u = up k lt in
          omega arith
      | inr e ↦
          let within : k < length xs = omega arith in
          let a = get_or_append_left xs (n ∷ []) 0 k within in
          let b = get_or_push xs n 0 (k + 1) (sym e) in
          let u = below (get_or xs k 0) (in_at xs k 0 within) in
          omega arith
    ])

pub rises_same : (xs ys : List ℕ) → ys ≡ xs → IsStrictlyIncreasing xs → IsStrictlyIncreasing ys
rises_same xs ys is up = subst IsStrictlyIncreasing (sym is) up
