-- The least of places is the first of them in order, and mostly tells already how they compare to others.
use Rattle.std.proofs.Common.{◌≡◌, ℕ, ◌+◌, ◌<◌, ◌≤◌, List, [], ◌∷◌, ◌++◌, take, length, min, get_or, slice_index, inl, inr, refl, sym, ap, subst, ◌∙◌, arith, Ordering, Less}
use Rattle.std.proofs.lemmas.Bool.{cases_lt}
use Rattle.std.proofs.lemmas.Bool.Decides.{nat_tests}
use Rattle.std.proofs.lemmas.List.{get_or_default, map-append}
use Rattle.std.specs.Prelude.{Some, slice_get}
use Rattle.std.specs.Ordering.{nat_cmp, ordering_then}
use Rattle.std.proofs.lemmas.Cmp.{nat_cmp_total}
use Rattle.poly_cells.specs.Sets.{IsIn, in_order}
use Rattle.poly_cells.proofs.SetLemmas.{in_at, in_map, in_append_cases, take_next, in_from_order, in_to_order, in_order_rises, rising_head}
use Rattle.std.specs.List.Sorted.{IsStrictlySortedBy}
use Rattle.poly_place.specs.Forms.{carried, forms_cmp}
use Rattle.poly_place.proofs.ChosenLemmas.{nat_exact}
use Rattle.poly_distinct.specs.Moves.{BeginsWith, IsLeastOf}

-- one image more
pub image_more : (carrier places : List ℕ) (i least next : ℕ) → i < length places → IsIn least (carried carrier places) → ((k : ℕ) → IsIn k (carried carrier (take i places)) → least ≤ k)
    → next ≡ min least (slice_index carrier (get_or places i 0))
    → IsIn next (carried carrier places) × ((k : ℕ) → IsIn k (carried carrier (take (i + 1) places)) → next ≤ k)
image_more carrier places i least next lt there low is = (
  elim (cases_lt x least) [
    | inl less ↦ subst (λ (n : ℕ). IsIn n (carried carrier places)) (let e : x ≡ next = omega (arith, less, is) in e) (in_map (slice_index carrier) (get_or places i 0) places (in_at places i 0 lt))
    | inr more ↦ subst (λ (n : ℕ). IsIn n (carried carrier places)) (let e : least ≡ next = omega (arith, more, is) in e) there
  ],
  λ k j.
      elim (in_append_cases k (carried carrier (take i places)) (x ∷ []) (subst (IsIn k) split j)) [
        | inl before ↦ let l = low k before in omega (arith, l, is)
        | inr last ↦ elim last [ inl e ↦ omega (arith, e, is) | inr none ↦ absurd none ]
      ],
)
  where
    x : ℕ
    x = slice_index carrier (get_or places i 0)

    split : carried carrier (take (i + 1) places) ≡ carried carrier (take i places) ++ x ∷ []
    split =
        ap (carried carrier) (take_next places i (get_or places i 0) lt (get_or_default places i 0 (get_or places i 0) lt))
        ∙ map-append (slice_index carrier) (take i places) (get_or places i 0 ∷ [])

less_is : (m n : ℕ) → nat_cmp m n ≡ Less → m < n
less_is m n h = grind (arith, nat_tests, h)

module _ (m : ℕ) (xs : List ℕ) (least : IsLeastOf m xs) where
  there : IsIn m (in_order nat_cmp xs)
  there = in_to_order nat_exact m xs least.member

  first_is : (z : ℕ) (zs : List ℕ) → in_order nat_cmp xs ≡ z ∷ zs → z ≡ m
  first_is z zs e =
      elim (subst (IsIn m) e there) [
        | inl same ↦ sym same
        | inr later ↦
            let less = rising_head nat_cmp z zs (subst (IsStrictlySortedBy nat_cmp) e (in_order_rises nat_cmp_total xs)) m later in
            let below = less_is z m less in
            let low = least.below z (in_from_order nat_cmp z xs (subst (IsIn z) (sym e) (inl refl))) in
            absurd (omega (arith, low, below))
      ]

  pub begins_with : (p : ℕ) (ps : List ℕ) → BeginsWith (nat_cmp m p) (forms_cmp (in_order nat_cmp xs) (p ∷ ps))
  begins_with p ps = by_list (in_order nat_cmp xs) refl
    where
      by_list : (ys : List ℕ) → in_order nat_cmp xs ≡ ys → BeginsWith (nat_cmp m p) (forms_cmp ys (p ∷ ps))
      by_list [] e = absurd (subst (IsIn m) e there)
      by_list (z ∷ zs) e = (forms_cmp zs ps, ap (λ (n : ℕ). ordering_then (nat_cmp n p) (forms_cmp zs ps)) (first_is z zs e))

at_first : (p : ℕ) (places : List ℕ) → Some p ≡ slice_get places 0 → (rest : List ℕ) × (places ≡ p ∷ rest)
at_first p [] e = cc
at_first p (q ∷ qs) e = (qs, let same : p ≡ q = cc in ap (λ (n : ℕ). n ∷ qs) (sym same))

-- the same of what equals them
pub begins_at : (m : ℕ) (xs places : List ℕ) (p : ℕ) (o : Ordering) → IsLeastOf m xs → Some p ≡ slice_get places 0 → o ≡ nat_cmp m p
    → BeginsWith o (forms_cmp (in_order nat_cmp xs) places)
begins_at m xs places p o least first is =
    let at = at_first p places first in
    subst (λ (q : Ordering). BeginsWith q (forms_cmp (in_order nat_cmp xs) places)) (sym is)
    (subst (λ (ks : List ℕ). BeginsWith (nat_cmp m p) (forms_cmp (in_order nat_cmp xs) ks)) (sym at.1) (begins_with m xs least p at.0))
