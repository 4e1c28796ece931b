-- The parts of a list beside a member, and lists of distinct numbers.
use Rattle.std.proofs.Common.{◌≡◌, ℕ, zero, suc, ◌<◌, ◌⊎◌, ◌==◌, true, false, not, ◌||◌, List, [], ◌∷◌, ◌++◌, length, get_or, refl, sym, ap, ◌∙◌, inl, inr, arith, add-one, one-add, take}
use Rattle.std.specs.List.{before_first, after_first}
use Rattle.std.proofs.lemmas.Bool.{false≢true, true≢false, or_parts, or_from, and_parts, and_from, cases_eq, eq-eqb, ne_eqb, not-true, not_from_false, both_ways, false_from_ne_true}
use Rattle.std.proofs.lemmas.List.Folds.{list_any-append}
use Rattle.shared_words.specs.Lists.{has, are_distinct}
use Rattle.cover_problem.proofs.MemberLemmas.{has_cases, has_here, has_later, has_not, has_append_not, has_append_not_from, has_at, nat_eq_sym}

-- the parts of a list beside its first i
pub before_at : (i : ℕ) (xs : List ℕ) → before_first (λ x. x == i) (i ∷ xs) ≡ []
before_at i xs = let f : i == i ≡ true = eq-eqb i i refl in rw f refl

pub before_past : (i x : ℕ) (xs : List ℕ) → (x ≡ i → ⊥) → before_first (λ x. x == i) (x ∷ xs) ≡ x ∷ before_first (λ x. x == i) xs
before_past i x xs e = let f : x == i ≡ false = ne_eqb x i e in rw (f, one-add) refl

pub after_past : (i x : ℕ) (xs : List ℕ) → (x ≡ i → ⊥) → after_first (λ x. x == i) (x ∷ xs) ≡ after_first (λ x. x == i) xs
after_past i x xs e = let f : x == i ≡ false = ne_eqb x i e in rw f (simp (one-add, add-one))

-- a list that doesn't have i
pub before_none : (i : ℕ) (xs : List ℕ) → has xs i ≡ false → before_first (λ x. x == i) xs ≡ xs
before_none i [] h = refl
before_none i (x ∷ xs) h = let t = has_not x xs i h in before_past i x xs t.0 ∙ ap (λ zs. x ∷ zs) (before_none i xs t.1)

-- what stands before i, where i stands once
pub before_here : (xs : List ℕ) (i : ℕ) (more : List ℕ) → has xs i ≡ false → before_first (λ x. x == i) (xs ++ i ∷ more) ≡ xs
before_here [] i more h = before_at i more
before_here (x ∷ xs) i more h = let t = has_not x xs i h in before_past i x (xs ++ i ∷ more) t.0 ∙ ap (λ zs. x ∷ zs) (before_here xs i more t.1)

-- a list is the part before i, i, and the part after it
pub parts_are : (i : ℕ) (xs : List ℕ) → has xs i ≡ true → xs ≡ before_first (λ x. x == i) xs ++ i ∷ after_first (λ x. x == i) xs
parts_are i [] h = absurd (false≢true h)
parts_are i (x ∷ xs) h = step (parts_are i xs) (cases_eq x i) (has_cases x xs i h)
  where
    step : (has xs i ≡ true → xs ≡ before_first (λ x. x == i) xs ++ i ∷ after_first (λ x. x == i) xs) → (x ≡ i) ⊎ (x ≡ i → ⊥) → (x ≡ i) ⊎ (has xs i ≡ true) → x ∷ xs ≡ before_first (λ x. x == i) (x ∷ xs) ++ i ∷ after_first (λ x. x == i) (x ∷ xs)
    step ih (inl e) c = let f : x == i ≡ true = eq-eqb x i e in rw (f, e) refl
    step ih (inr e) (inl g) = absurd (e g)
    step ih (inr e) (inr k) = rw (before_past i x xs e, after_past i x xs e) (ap (λ zs. x ∷ zs) (ih k))

-- distinct numbers
pub distinct_parts : (xs ys : List ℕ) → are_distinct (xs ++ ys) ≡ true → (are_distinct xs ≡ true) × (are_distinct ys ≡ true) × ((x : ℕ) → has xs x ≡ true → has ys x ≡ false)
distinct_parts [] ys h = (refl, h, λ x i. absurd (false≢true i))
distinct_parts (x ∷ xs) ys h = step (distinct_parts xs ys) (and_parts (not (has (xs ++ ys) x)) (are_distinct (xs ++ ys)) h)
  where
    step : (are_distinct (xs ++ ys) ≡ true → (are_distinct xs ≡ true) × (are_distinct ys ≡ true) × ((x : ℕ) → has xs x ≡ true → has ys x ≡ false)) → (not (has (xs ++ ys) x) ≡ true) × (are_distinct (xs ++ ys) ≡ true) → (are_distinct (x ∷ xs) ≡ true) × (are_distinct ys ≡ true) × ((y : ℕ) → has (x ∷ xs) y ≡ true → has ys y ≡ false)
    step ih t = let r = ih t.1 in let n = has_append_not xs ys x (not-true (has (xs ++ ys) x) t.0) in
        (and_from (not (has xs x)) (are_distinct xs) (not_from_false (has xs x) n.0) r.0, r.1, λ y i. apart r.2 n.1 y (has_cases x xs y i))
      where
        apart : ((x : ℕ) → has xs x ≡ true → has ys x ≡ false) → has ys x ≡ false → (y : ℕ) → (x ≡ y) ⊎ (has xs y ≡ true) → has ys y ≡ false
        apart a b y (inl e) = rw e at b
        apart a b y (inr i) = a y i

pub distinct_from : (xs ys : List ℕ) → are_distinct xs ≡ true → are_distinct ys ≡ true → ((x : ℕ) → has xs x ≡ true → has ys x ≡ false) → are_distinct (xs ++ ys) ≡ true
distinct_from [] ys a b c = b
distinct_from (x ∷ xs) ys a b c = let t = and_parts (not (has xs x)) (are_distinct xs) a in
    and_from (not (has (xs ++ ys) x)) (are_distinct (xs ++ ys))
    (not_from_false (has (xs ++ ys) x) (has_append_not_from xs ys x (not-true (has xs x) t.0) (c x (has_here x xs))))
    (distinct_from xs ys t.1 b (λ y i. c y (has_later x xs y i)))

pub distinct_swap : (xs ys : List ℕ) → are_distinct (xs ++ ys) ≡ true → are_distinct (ys ++ xs) ≡ true
distinct_swap xs ys h = let t = distinct_parts xs ys h in
    distinct_from ys xs t.1 t.0 (λ x i. false_from_ne_true (has xs x) (λ j. both_ways (has ys x) (t.2 x j) i))

-- in a list of distinct numbers one isn't among those before it
pub fresh_at : (xs : List ℕ) (i : ℕ) → i < length xs → are_distinct xs ≡ true → has (take i xs) (get_or xs i 0) ≡ false
fresh_at [] i l d = absurd (omega arith)
fresh_at (x ∷ xs) zero l d = refl
fresh_at (x ∷ xs) (suc i) l d = or_from (x == get_or xs i 0) (has (take i xs) (get_or xs i 0)) (ne_eqb x (get_or xs i 0) apart) (fresh_at xs i (omega arith) p.1)
  where
    p : (not (has xs x) ≡ true) × (are_distinct xs ≡ true)
    p = and_parts (not (has xs x)) (are_distinct xs) d

    apart : x ≡ get_or xs i 0 → ⊥
    apart e = true≢false (sym (has_at xs i 0 (omega arith)) ∙ ap (has xs) (sym e) ∙ not-true (has xs x) p.0)

pub are_distinct_push : (xs : List ℕ) (x : ℕ) → are_distinct xs ≡ true → has xs x ≡ false → are_distinct (xs ++ x ∷ []) ≡ true
are_distinct_push [] x n h = refl
are_distinct_push (y ∷ ys) x n h =
    let p = and_parts (not (has ys y)) (are_distinct ys) n in
    let q = or_parts (y == x) (has ys x) h in
    let r : has (ys ++ x ∷ []) y ≡ false =
    list_any-append (λ z. z == y) ys (x ∷ []) ∙ or_from _ _ (not-true _ p.0) (or_from _ _ (nat_eq_sym x y ∙ q.0) refl) in
    and_from _ _ (not_from_false _ r) (are_distinct_push ys x p.1 q.1)

pub distinct_before : (acc xs : List ℕ) (x : ℕ) → are_distinct (acc ++ x ∷ xs) ≡ true → has acc x ≡ false
distinct_before [] xs x h = refl
distinct_before (y ∷ ys) xs x h =
    let p = and_parts (not (has (ys ++ x ∷ xs) y)) (are_distinct (ys ++ x ∷ xs)) h in
    let a : (has ys y || has (x ∷ xs) y) ≡ false = sym (list_any-append (λ z. z == y) ys (x ∷ xs)) ∙ not-true _ p.0 in
    let b = or_parts (has ys y) (has (x ∷ xs) y) a in
    let e = or_parts (x == y) (has xs y) b.1 in
    or_from (y == x) (has ys x) (nat_eq_sym y x ∙ e.0) (distinct_before ys xs x p.1)
