-- Members of joined lists, of ranges and of those that pass a test, and a test that all members of a list pass or one does.
use Rattle.std.proofs.Common.{◌≡◌, List, [], ◌∷◌, filter, Bool, true, false, cond, inl, inr, refl, sym, subst, ℕ, zero, suc, ◌+◌, ◌-◌, ◌<◌, ◌≤◌, get_or, ◌∙◌, arith, ap, ap₂, map, not, length}
use Rattle.std.specs.List.{list_all, flat_map, list_any, range_with_len, position_or_len}
use Rattle.poly_cells.specs.Sets.{IsIn}
use Rattle.poly_cells.proofs.SetLemmas.{in_append_left, in_append_right, in_append_cases, in_at, in_from_contains, contains_from_in}
use Rattle.std.proofs.lemmas.List.Sums.{AllPass-from_list_all, list_all-from_AllPass, fails_before_first}
use Rattle.std.proofs.lemmas.List.Elements.{All-contains}
use Rattle.std.proofs.lemmas.List.Folds.{Any-from_list_any, list_any-from_Any}
use Rattle.std.proofs.lemmas.List.FromFn.{length-range_with_len, get_or-range_with_len}
use Rattle.std.proofs.lemmas.Bool.{cases_lt, both_ways}

-- ---- joined lists

pub in_flat_map : {X A : Type 0} (f : X → List A) (a : A) (x : X) (xs : List X) → IsIn x xs → IsIn a (f x) → IsIn a (flat_map f xs)
in_flat_map f a x [] i j = absurd i
in_flat_map f a x (y ∷ ys) i j =
    elim i [
      | inl e ↦ in_append_left a (f y) (flat_map f ys) (subst (λ z. IsIn a (f z)) e j)
      | inr r ↦ in_append_right a (f y) (flat_map f ys) (in_flat_map f a x ys r j)
    ]

pub in_from_flat_map : {X A : Type 0} (f : X → List A) (a : A) (xs : List X) → IsIn a (flat_map f xs) → (x : X) × IsIn x xs × IsIn a (f x)
in_from_flat_map f a [] i = absurd i
in_from_flat_map f a (y ∷ ys) i =
    elim (in_append_cases a (f y) (flat_map f ys) i) [
      | inl l ↦ (y, inl refl, l)
      | inr r ↦ let rest = in_from_flat_map f a ys r in (rest.0, inr rest.1, rest.2)
    ]

-- ---- members that pass a test

pub in_from_filter : {X : Type 0} (test : X → Bool) (x : X) (xs : List X) → IsIn x (filter test xs) → IsIn x xs × (test x ≡ true)
in_from_filter test x [] i = absurd i
in_from_filter {X} test x (y ∷ ys) i = by_test (test y) refl (in_from_filter test x ys) i
  where
    by_test : (b : Bool) → test y ≡ b → (IsIn x (filter test ys) → IsIn x ys × (test x ≡ true)) → IsIn x (cond b (y ∷ filter test ys) (filter test ys)) → IsIn x (y ∷ ys) × (test x ≡ true)
    by_test true h rest j = elim j [ inl e ↦ (inl e, subst (λ (z : X). test z ≡ true) (sym e) h) | inr r ↦ let more = rest r in (inr more.0, more.1) ]
    by_test false h rest j = let more = rest j in (inr more.0, more.1)

pub in_filter : {X : Type 0} (test : X → Bool) (x : X) (xs : List X) → IsIn x xs → test x ≡ true → IsIn x (filter test xs)
in_filter test x [] i h = absurd i
in_filter {X} test x (y ∷ ys) i h = by_test (test y) refl (λ r. in_filter test x ys r h)
  where
    by_test : (b : Bool) → test y ≡ b → (IsIn x ys → IsIn x (filter test ys)) → IsIn x (cond b (y ∷ filter test ys) (filter test ys))
    by_test true t rest = elim i [ inl e ↦ inl e | inr r ↦ inr (rest r) ]
    by_test false f rest = elim i [ inl e ↦ let t = subst (λ (z : X). test z ≡ true) e h in cc | inr r ↦ rest r ]

-- ---- a test of all

pub all_pass : {X : Type 0} (test : X → Bool) (xs : List X) → ((x : X) → IsIn x xs → test x ≡ true) → list_all test xs ≡ true
all_pass test xs h = list_all-from_AllPass test xs (λ k d lt. h (get_or xs k d) (in_at xs k d lt))

pub passes : {X : Type 0} (test : X → Bool) (xs : List X) → list_all test xs ≡ true → (x : X) → IsIn x xs → test x ≡ true
passes test xs h x i = All-contains (λ y. test y ≡ true) xs x (AllPass-from_list_all test xs h) (contains_from_in xs x i)

-- ---- a test that some member passes

pub some_passes : {X : Type 0} (test : X → Bool) (xs : List X) → list_any test xs ≡ true → (x : X) × IsIn x xs × (test x ≡ true)
some_passes test xs h = let one = Any-from_list_any test xs h in (one.1, in_from_contains xs one.1 (one.0, one.2, one.3), one.4)

pub passes_some : {X : Type 0} (test : X → Bool) (x : X) (xs : List X) → IsIn x xs → test x ≡ true → list_any test xs ≡ true
passes_some test x xs i h = let at = contains_from_in xs x i in list_any-from_Any test xs (at.0, x, at.1, at.2, h)

-- ---- the first member that passes a test

-- a number that is 0 where the first passes, and else one more than for the rest, is its place
pub first_at : {X : Type 0} (test : X → Bool) (place : List X → ℕ) → place [] ≡ 0 → ((x : X) (xs : List X) → place (x ∷ xs) ≡ cond (test x) 0 (1 + place xs)) → (xs : List X) → place xs ≡ position_or_len test xs
first_at test place none more [] = none
first_at test place none more (x ∷ xs) = more x xs ∙ by_test (test x) (first_at test place none more xs)
  where
    by_test : (b : Bool) → place xs ≡ position_or_len test xs → cond b 0 (1 + place xs) ≡ cond (not b) (1 + position_or_len test xs) 0
    by_test true e = refl
    by_test false e = ap (λ k. 1 + k) e

pub first_within : {X : Type 0} (test : X → Bool) (xs : List X) (x : X) → IsIn x xs → test x ≡ true → position_or_len test xs < length xs
first_within test xs x i t =
    let at = contains_from_in xs x i in
    elim (cases_lt (position_or_len test xs) (length xs)) [
      | inl lt ↦ lt
      | inr past ↦ absurd (both_ways (test x) (ap test (sym at.2) ∙ fails_before_first test xs at.0 x (omega (arith, at.1, past))) t)
    ]

-- ---- ranges

pub in_from_range : (x a n : ℕ) → IsIn x (range_with_len a n) → x < a + n
in_from_range x a zero i = absurd i
in_from_range x a (suc n) i = elim i [ inl e ↦ omega arith | inr r ↦ let h = in_from_range x (a + 1) n r in omega arith ]

pub in_to_range : (x a n : ℕ) → a ≤ x → x < a + n → IsIn x (range_with_len a n)
in_to_range x a n low high =
    let at : a + (x - a) ≡ x = omega arith in
    subst (λ y. IsIn y (range_with_len a n)) (get_or-range_with_len a n (x - a) 0 (omega arith) ∙ at)
    (in_at (range_with_len a n) (x - a) 0 (rw length-range_with_len (omega arith)))

-- ---- functions and maps that agree

pub same_function : {X Y : Type 0} (f g : X → Y) → ((x : X) → f x ≡ g x) → f ≡ g
same_function f g h = λ i x. h x i

pub same_map : {X Y : Type 0} (f g : X → Y) (xs : List X) → ((x : X) → IsIn x xs → f x ≡ g x) → map f xs ≡ map g xs
same_map f g [] h = refl
same_map f g (x ∷ xs) h = ap₂ (λ y ys. y ∷ ys) (h x (inl refl)) (same_map f g xs (λ y i. h y (inr i)))

pub same_at : {X Y : Type 0} (f g : X → Y) (xs : List X) → map f xs ≡ map g xs → (x : X) → IsIn x xs → f x ≡ g x
same_at f g [] h x i = absurd i
same_at f g (y ∷ ys) h x i =
    let first : f y ≡ g y = cc in
    let rest : map f ys ≡ map g ys = cc in
    elim i [ inl e ↦ ap f e ∙ first ∙ ap g (sym e) | inr r ↦ same_at f g ys rest x r ]
