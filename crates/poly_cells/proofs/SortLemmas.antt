-- Sorting a list and dropping repeats gives its members in order, each once.
use Rattle.std.proofs.Common.{◌≡◌, List, map, sym, ap, subst, ◌∙◌, Bool, true, Ordering, IsPermutation, IsSorted}
use Rattle.std.specs.Cmp.{IsTotalOrder, IsEquivalence, Equal-is}
use Rattle.std.specs.Ordering.{eq_by_cmp, on}
use Rattle.std.specs.List.{dedup}
use Rattle.std.proofs.lemmas.Cmp.{on_total, eq_by_cmp_equiv}
use Rattle.std.proofs.lemmas.List.Sorted.{Contains-permutation, IsPermutation-sym}
use Rattle.std.proofs.lemmas.List.Kept.{Any-dedup, Contains-from_dedup, IsStrictlySortedBy-dedup}
use Rattle.poly_cells.specs.Sets.{IsIn, in_order, IsExact}
use Rattle.poly_cells.proofs.SetLemmas.{in_map, in_from_map, in_from_contains, contains_from_in, rising_map, same_members, in_order_rises, in_from_order, in_to_order}

-- the test says whether the values are the same in the order
abbrev pub IsTie : {K J : Type 0} (f : K → J) (R : J → J → Ordering) (E : K → K → Bool) → Type 0
IsTie {K} f R E = (a b : K) → E a b ≡ eq_by_cmp (on f R) a b

tied_values : {K J : Type 0} (f : K → J) {R : J → J → Ordering} → IsExact R → (E : K → K → Bool) → IsTie f R E → (a b : K) → E a b ≡ true → f a ≡ f b
tied_values f {R} exact E ties a b h = exact (f a) (f b) ((Equal-is (R (f a) (f b))).0 (sym (ties a b) ∙ h))

in_from_sort : {K J : Type 0} (f : K → J) (E : K → K → Bool) (xs ys : List K) → IsPermutation xs ys → (x : J) → IsIn x (map f (dedup E ys)) → IsIn x (map f xs)
in_from_sort {K} {J} f E xs ys p x h =
    let from = in_from_map f x (dedup E ys) h in
    let there = Contains-permutation ys xs from.0 (IsPermutation-sym xs ys p) (Contains-from_dedup E ys from.0 (contains_from_in (dedup E ys) from.0 from.1)) in
    subst (λ (z : J). IsIn z (map f xs)) (sym from.2) (in_map f from.0 xs (in_from_contains xs from.0 there))

ties_equivalent : {K J : Type 0} (f : K → J) {R : J → J → Ordering} → IsTotalOrder R → (E : K → K → Bool) → IsTie f R E → IsEquivalence E
ties_equivalent f {R} o E ties =
    let e = eq_by_cmp_equiv (on_total f o) in
    record {
      refl = λ x. ties x x ∙ e.refl x;
      symm = λ x y. ties x y ∙ e.symm x y ∙ sym (ties y x);
      congr = λ x y z h. ties x z ∙ e.congr x y z (sym (ties x y) ∙ h) ∙ sym (ties y z);
    }

in_to_sort : {K J : Type 0} (f : K → J) {R : J → J → Ordering} → IsTotalOrder R → IsExact R → (E : K → K → Bool) → IsTie f R E → (xs ys : List K) → IsPermutation xs ys
    → (x : J) → IsIn x (map f xs) → IsIn x (map f (dedup E ys))
in_to_sort {K} {J} f {R} o exact E ties xs ys p x h =
    let from = in_from_map f x xs h in
    let there = Contains-permutation xs ys from.0 p (contains_from_in xs from.0 from.1) in
    let kept = Any-dedup (ties_equivalent f o E ties) ys from.0 there in
    let same : x ≡ f kept.1 = from.2 ∙ tied_values f exact E ties from.0 kept.1 kept.4 in
    subst (λ (z : J). IsIn z (map f (dedup E ys))) (sym same) (in_map f kept.1 (dedup E ys) (in_from_contains (dedup E ys) kept.1 (kept.0, kept.2, kept.3)))

pub after_sort : {K J : Type 0} (f : K → J) {R : J → J → Ordering} → IsTotalOrder R → IsExact R → (E : K → K → Bool) → IsTie f R E
    → (xs ys zs : List K) → IsPermutation xs ys → IsSorted (on f R) ys → zs ≡ dedup E ys → map f zs ≡ in_order R (map f xs)
after_sort {K} {J} f {R} o exact E ties xs ys zs p sorted is =
    ap (map f) is
    ∙ same_members o (map f (dedup E ys)) (in_order R (map f xs))
    (rising_map f (on f R) R (dedup E ys) (λ _ _ _ _ h. h) (IsStrictlySortedBy-dedup (on_total f o) ties ys sorted))
    (in_order_rises o (map f xs))
    (λ x i. in_to_order exact x (map f xs) (in_from_sort f E xs ys p x i))
    (λ x i. in_to_sort f o exact E ties xs ys p x (in_from_order R x (map f xs) i))
