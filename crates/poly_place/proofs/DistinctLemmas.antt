-- Lists in which nothing comes twice, and places in them.
use Rattle.std.proofs.Common.{◌≡◌, ℕ, zero, suc, ◌<◌, List, [], ◌∷◌, ◌++◌, map, filter, length, get_or, Bool, true, false, cond, not, ◌==◌, inl, inr, refl, sym, ap, subst, Ordering, arith, eqb-true, eq-eqb, ◌∙◌}
use Rattle.std.specs.Cmp.{IsTotalOrder}
use Rattle.std.specs.List.Sorted.{IsStrictlySortedBy}
use Rattle.std.proofs.lemmas.Bool.{and_parts, both_ways, not-true}
use Rattle.poly_cells.specs.Sets.{IsIn}
use Rattle.poly_cells.proofs.MemberLemmas.{in_from_filter, some_passes, passes_some}
use Rattle.poly_cells.proofs.SetLemmas.{in_append_cases, in_from_map, rising_head, rising_tail, not_itself, in_at, contains_from_in}
use Rattle.poly_texts.specs.Puzzle.{has_name, are_new}
use Rattle.std.proofs.lemmas.List.{get_or_default}

-- ---- tests on numbers

pub in_from_name : (names : List ℕ) (n : ℕ) → has_name names n ≡ true → IsIn n names
in_from_name names n h = let one = some_passes (λ m. m == n) names h in subst (λ (m : ℕ). IsIn m names) (eqb-true one.0 n one.2) one.1

pub name_from_in : (names : List ℕ) (n : ℕ) → IsIn n names → has_name names n ≡ true
name_from_in names n i = passes_some (λ m. m == n) n names i (eq-eqb n n refl)

-- ---- nothing comes twice

abbrev pub IsDistinct : {X : Type 0} → List X → Type 0
IsDistinct [] = Unit {0}
IsDistinct (x ∷ xs) = (IsIn x xs → ⊥) × IsDistinct xs

pub distinct_append : {X : Type 0} (xs ys : List X) → IsDistinct xs → IsDistinct ys → ((x : X) → IsIn x xs → IsIn x ys → ⊥) → IsDistinct (xs ++ ys)
distinct_append [] ys d e h = e
distinct_append (x ∷ xs) ys d e h = (
  (λ i. elim (in_append_cases x xs ys i) [ inl l ↦ d.0 l | inr r ↦ h x (inl refl) r ]),
  distinct_append xs ys d.1 e (λ z i j. h z (inr i) j),
)

pub distinct_filter : {X : Type 0} (test : X → Bool) (xs : List X) → IsDistinct xs → IsDistinct (filter test xs)
distinct_filter test [] d = tt
distinct_filter {X} test (x ∷ xs) d = by_test (test x) (distinct_filter test xs d.1)
  where
    by_test : (b : Bool) → IsDistinct (filter test xs) → IsDistinct (cond b (x ∷ filter test xs) (filter test xs))
    by_test true rest = ((λ i. d.0 (in_from_filter test x xs i).0), rest)
    by_test false rest = rest

pub distinct_map : {X Y : Type 0} (f : X → Y) (xs : List X) → ((a b : X) → f a ≡ f b → a ≡ b) → IsDistinct xs → IsDistinct (map f xs)
distinct_map f [] same d = tt
distinct_map {X} {Y} f (x ∷ xs) same d = (
  (λ i. let from = in_from_map f (f x) xs i in d.0 (subst (λ (z : X). IsIn z xs) (sym (same x from.0 from.2)) from.1)),
  distinct_map f xs same d.1,
)

pub distinct_rising : {X : Type 0} {R : X → X → Ordering} → IsTotalOrder R → (xs : List X) → IsStrictlySortedBy R xs → IsDistinct xs
distinct_rising o [] h = tt
distinct_rising {X} {R} o (x ∷ xs) h = ((λ i. not_itself o x (rising_head R x xs h x i)), distinct_rising o xs (rising_tail R x xs h))

pub distinct_names : (names : List ℕ) → are_new names ≡ true → IsDistinct names
distinct_names [] h = tt
distinct_names (n ∷ ns) h =
    let parts = and_parts (not (has_name ns n)) (are_new ns) h in
    ((λ i. both_ways (has_name ns n) (not-true _ parts.0) (name_from_in ns n i)), distinct_names ns parts.1)

-- ---- places

pub at_of_in : {X : Type 0} (d x : X) (xs : List X) → IsIn x xs → (k : ℕ) × (k < length xs) × (get_or xs k d ≡ x)
at_of_in d x xs i = let at = contains_from_in xs x i in (at.0, at.1, get_or_default xs at.0 d x at.1 ∙ at.2)

pub distinct_at : {X : Type 0} (d : X) (xs : List X) (i j : ℕ) → IsDistinct xs → i < length xs → j < length xs → get_or xs i d ≡ get_or xs j d → i ≡ j
distinct_at d [] i j a p q e = absurd (omega arith)
distinct_at d (x ∷ xs) zero zero a p q e = refl
distinct_at {X} d (x ∷ xs) zero (suc j) a p q e = absurd (a.0 (subst (λ (z : X). IsIn z xs) (sym e) (in_at xs j d (omega arith))))
distinct_at {X} d (x ∷ xs) (suc i) zero a p q e = absurd (a.0 (subst (λ (z : X). IsIn z xs) e (in_at xs i d (omega arith))))
distinct_at d (x ∷ xs) (suc i) (suc j) a p q e = ap suc (distinct_at d xs i j a.1 (omega arith) (omega arith) e)
