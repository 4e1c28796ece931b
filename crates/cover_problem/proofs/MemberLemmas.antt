-- The members of a list of numbers: what each passes, and filters.
use Rattle.std.proofs.Common.{◌≡◌, ℕ, zero, suc, ◌<◌, ◌≤◌, ◌⊎◌, ◌==◌, Bool, true, false, ◌||◌, cond, List, [], ◌∷◌, ◌++◌, length, get_or, filter, refl, sym, ap, ◌∙◌, inl, inr, arith, le_refl, le_trans}
use Rattle.std.specs.List.{list_any, list_all}
use Rattle.std.proofs.lemmas.Bool.{false≢true, true≢false, or_cases, or_left, or_right, or_parts, or_from, and_parts, and_from, cases_Bool, cases_lt, eqb-true, eqb-false, eq-eqb, ne_eqb, both_ways}
use Rattle.std.proofs.Math.Bool.{or-false}
use Rattle.std.proofs.lemmas.List.Folds.{list_any-append, list_all-append}
use Rattle.shared_words.specs.Lists.{has}
use Rattle.std.proofs.lemmas.Bool.Decides.{nat_tests}
use Rattle.text_lines.specs.Each.{each}

-- x is the head, or in the rest
pub has_cases : (y : ℕ) (ys : List ℕ) (x : ℕ) → has (y ∷ ys) x ≡ true → (y ≡ x) ⊎ (has ys x ≡ true)
has_cases y ys x h = elim (or_cases (y == x) (has ys x) h) [ inl e ↦ inl (eqb-true y x e) | inr e ↦ inr e ]

pub has_here : (x : ℕ) (ys : List ℕ) → has (x ∷ ys) x ≡ true
has_here x ys = or_left (x == x) (has ys x) (eq-eqb x x refl)

pub has_later : (y : ℕ) (ys : List ℕ) (x : ℕ) → has ys x ≡ true → has (y ∷ ys) x ≡ true
has_later y ys x h = or_right (y == x) (has ys x) h

pub has_not : (y : ℕ) (ys : List ℕ) (x : ℕ) → has (y ∷ ys) x ≡ false → (y ≡ x → ⊥) × (has ys x ≡ false)
has_not y ys x h = let t = or_parts (y == x) (has ys x) h in (eqb-false y x t.0, t.1)

pub has_not_from : (y : ℕ) (ys : List ℕ) (x : ℕ) → (y ≡ x → ⊥) → has ys x ≡ false → has (y ∷ ys) x ≡ false
has_not_from y ys x e h = or_from (y == x) (has ys x) (ne_eqb y x e) h

pub has-append : (xs ys : List ℕ) (x : ℕ) → has (xs ++ ys) x ≡ (has xs x || has ys x)
has-append xs ys x = list_any-append (λ y. y == x) xs ys

pub has_append_cases : (xs ys : List ℕ) (x : ℕ) → has (xs ++ ys) x ≡ true → (has xs x ≡ true) ⊎ (has ys x ≡ true)
has_append_cases xs ys x h = or_cases (has xs x) (has ys x) (sym (has-append xs ys x) ∙ h)

pub has_append_left : (xs ys : List ℕ) (x : ℕ) → has xs x ≡ true → has (xs ++ ys) x ≡ true
has_append_left xs ys x h = has-append xs ys x ∙ or_left (has xs x) (has ys x) h

pub has_append_right : (xs ys : List ℕ) (x : ℕ) → has ys x ≡ true → has (xs ++ ys) x ≡ true
has_append_right xs ys x h = has-append xs ys x ∙ or_right (has xs x) (has ys x) h

pub has_append_not : (xs ys : List ℕ) (x : ℕ) → has (xs ++ ys) x ≡ false → (has xs x ≡ false) × (has ys x ≡ false)
has_append_not xs ys x h = or_parts (has xs x) (has ys x) (sym (has-append xs ys x) ∙ h)

pub has_append_not_from : (xs ys : List ℕ) (x : ℕ) → has xs x ≡ false → has ys x ≡ false → has (xs ++ ys) x ≡ false
has_append_not_from xs ys x a b = has-append xs ys x ∙ or_from (has xs x) (has ys x) a b

-- what each member passes
pub none_member : (test : ℕ → Bool) (xs : List ℕ) (x : ℕ) → list_any test xs ≡ false → has xs x ≡ true → test x ≡ false
none_member test [] x n h = absurd (false≢true h)
none_member test (y ∷ ys) x n h = step (or_parts (test y) (list_any test ys) n) (none_member test ys x) (has_cases y ys x h)
  where
    step : (test y ≡ false) × (list_any test ys ≡ false) → (list_any test ys ≡ false → has ys x ≡ true → test x ≡ false) → (y ≡ x) ⊎ (has ys x ≡ true) → test x ≡ false
    step n ih (inl e) = rw e at n.0
    step n ih (inr i) = ih n.1 i

-- each member passes, so that none is found
pub none_from : (test : ℕ → Bool) (xs : List ℕ) → ((x : ℕ) → has xs x ≡ true → test x ≡ false) → list_any test xs ≡ false
none_from test [] each = refl
none_from test (y ∷ ys) each = or_from (test y) (list_any test ys) (each y (has_here y ys)) (none_from test ys (λ x h. each x (has_later y ys x h)))

pub some_from : (test : ℕ → Bool) (xs : List ℕ) (x : ℕ) → has xs x ≡ true → test x ≡ true → list_any test xs ≡ true
some_from test xs x h t = step (cases_Bool (list_any test xs))
  where
    step : (list_any test xs ≡ true) ⊎ (list_any test xs ≡ false) → list_any test xs ≡ true
    step (inl e) = e
    step (inr e) = absurd (both_ways (test x) (none_member test xs x e h) t)

-- a member that passes
pub some_member : (test : ℕ → Bool) (xs : List ℕ) → list_any test xs ≡ true → (x : ℕ) × (has xs x ≡ true) × (test x ≡ true)
some_member test [] h = absurd (false≢true h)
some_member test (y ∷ ys) h = step (some_member test ys) (or_cases (test y) (list_any test ys) h)
  where
    step : (list_any test ys ≡ true → (x : ℕ) × (has ys x ≡ true) × (test x ≡ true)) → (test y ≡ true) ⊎ (list_any test ys ≡ true) → (x : ℕ) × (has (y ∷ ys) x ≡ true) × (test x ≡ true)
    step ih (inl t) = (y, has_here y ys, t)
    step ih (inr t) = let r = ih t in (r.0, has_later y ys r.0 r.1, r.2)

pub all_member : (test : ℕ → Bool) (xs : List ℕ) (x : ℕ) → list_all test xs ≡ true → has xs x ≡ true → test x ≡ true
all_member test [] x a h = absurd (false≢true h)
all_member test (y ∷ ys) x a h = step (and_parts (test y) (list_all test ys) a) (all_member test ys x) (has_cases y ys x h)
  where
    step : (test y ≡ true) × (list_all test ys ≡ true) → (list_all test ys ≡ true → has ys x ≡ true → test x ≡ true) → (y ≡ x) ⊎ (has ys x ≡ true) → test x ≡ true
    step n ih (inl e) = rw e at n.0
    step n ih (inr i) = ih n.1 i

pub all_from : (test : ℕ → Bool) (xs : List ℕ) → ((x : ℕ) → has xs x ≡ true → test x ≡ true) → list_all test xs ≡ true
all_from test [] each = refl
all_from test (y ∷ ys) each = and_from (test y) (list_all test ys) (each y (has_here y ys)) (all_from test ys (λ x h. each x (has_later y ys x h)))

-- where not all pass, a member that doesn't
pub not_all : (test : ℕ → Bool) (xs : List ℕ) → list_all test xs ≡ false → (x : ℕ) × (has xs x ≡ true) × (test x ≡ false)
not_all test [] h = absurd (true≢false h)
not_all test (y ∷ ys) h = step (not_all test ys) (cases_Bool (test y))
  where
    step : (list_all test ys ≡ false → (x : ℕ) × (has ys x ≡ true) × (test x ≡ false)) → (test y ≡ true) ⊎ (test y ≡ false) → (x : ℕ) × (has (y ∷ ys) x ≡ true) × (test x ≡ false)
    step ih (inl t) = let r = ih (rw t at h) in (r.0, has_later y ys r.0 r.1, r.2)
    step ih (inr t) = (y, has_here y ys, t)

-- filters
pub has_filter_in : (test : ℕ → Bool) (xs : List ℕ) (x : ℕ) → has (filter test xs) x ≡ true → (test x ≡ true) × (has xs x ≡ true)
has_filter_in test [] x h = absurd (false≢true h)
has_filter_in test (y ∷ ys) x h = step (has_filter_in test ys x) (cases_Bool (test y))
  where
    here : (has (filter test ys) x ≡ true → (test x ≡ true) × (has ys x ≡ true)) → test y ≡ true → (y ≡ x) ⊎ (has (filter test ys) x ≡ true) → (test x ≡ true) × (has (y ∷ ys) x ≡ true)
    here ih t (inl e) = (rw e at t, or_left (y == x) (has ys x) (eq-eqb y x e))
    here ih t (inr i) = ((ih i).0, has_later y ys x (ih i).1)

    step : (has (filter test ys) x ≡ true → (test x ≡ true) × (has ys x ≡ true)) → (test y ≡ true) ⊎ (test y ≡ false) → (test x ≡ true) × (has (y ∷ ys) x ≡ true)
    step ih (inl t) = here ih t (has_cases y (filter test ys) x (rw t at h))
    step ih (inr t) = let r = ih (rw t at h) in (r.0, has_later y ys x r.1)

pub has_filter : (test : ℕ → Bool) (xs : List ℕ) (x : ℕ) → test x ≡ true → has xs x ≡ true → has (filter test xs) x ≡ true
has_filter test [] x t h = absurd (false≢true h)
has_filter test (y ∷ ys) x t h = step (has_filter test ys x t) (cases_Bool (test y)) (has_cases y ys x h)
  where
    step : (has ys x ≡ true → has (filter test ys) x ≡ true) → (test y ≡ true) ⊎ (test y ≡ false) → (y ≡ x) ⊎ (has ys x ≡ true) → has (filter test (y ∷ ys)) x ≡ true
    step ih (inl u) (inl e) = rw u (or_left (y == x) (has (filter test ys) x) (eq-eqb y x e))
    step ih (inl u) (inr i) = rw u (has_later y (filter test ys) x (ih i))
    step ih (inr u) (inl e) = absurd (both_ways (test y) u (rw e t))
    step ih (inr u) (inr i) = rw u (ih i)

-- filters whose tests agree on the members
pub filter_agree_on : (t u : ℕ → Bool) (xs : List ℕ) → ((x : ℕ) → has xs x ≡ true → t x ≡ u x) → filter t xs ≡ filter u xs
filter_agree_on t u [] each = refl
filter_agree_on t u (y ∷ ys) each = ap (λ b. cond b (y ∷ filter t ys) (filter t ys)) (each y (has_here y ys)) ∙ ap (λ zs. cond (u y) (y ∷ zs) zs) (filter_agree_on t u ys (λ x h. each x (has_later y ys x h)))

-- where fewer pass
pub filter_at_most : (t u : ℕ → Bool) (xs : List ℕ) → ((y : ℕ) → u y ≡ true → t y ≡ true) → length (filter u xs) ≤ length (filter t xs)
filter_at_most t u [] each = le_refl 0
filter_at_most t u (y ∷ ys) each = step (filter_at_most t u ys each) (cases_Bool (u y)) (cases_Bool (t y))
  where
    step : length (filter u ys) ≤ length (filter t ys) → (u y ≡ true) ⊎ (u y ≡ false) → (t y ≡ true) ⊎ (t y ≡ false) → length (filter u (y ∷ ys)) ≤ length (filter t (y ∷ ys))
    step ih (inl a) (inl b) = rw (a, b) (omega arith)
    step ih (inl a) (inr b) = absurd (both_ways (t y) b (each y a))
    step ih (inr a) (inl b) = rw (a, b) (omega arith)
    step ih (inr a) (inr b) = rw (a, b) ih

-- and one member less
pub filter_falls : (t u : ℕ → Bool) (xs : List ℕ) (x : ℕ) → ((y : ℕ) → u y ≡ true → t y ≡ true) → has xs x ≡ true → t x ≡ true → u x ≡ false → length (filter u xs) < length (filter t xs)
filter_falls t u [] x each h was gone = absurd (false≢true h)
filter_falls t u (y ∷ ys) x each h was gone = step (λ i. filter_falls t u ys x each i was gone) (cases_Bool (u y)) (cases_Bool (t y)) (has_cases y ys x h)
  where
    step : (has ys x ≡ true → length (filter u ys) < length (filter t ys)) → (u y ≡ true) ⊎ (u y ≡ false) → (t y ≡ true) ⊎ (t y ≡ false) → (y ≡ x) ⊎ (has ys x ≡ true) → length (filter u (y ∷ ys)) < length (filter t (y ∷ ys))
    step ih (inl a) (inl b) (inl e) = absurd (both_ways (u y) (rw e gone) a)
    step ih (inl a) (inl b) (inr i) = let r = ih i in rw (a, b) (omega arith)
    step ih (inl a) (inr b) c = absurd (both_ways (t y) b (each y a))
    step ih (inr a) (inl b) c = let r = filter_at_most t u ys each in rw (a, b) (omega arith)
    step ih (inr a) (inr b) (inl e) = absurd (both_ways (t y) b (rw e was))
    step ih (inr a) (inr b) (inr i) = rw (a, b) (ih i)

-- a member of least weight
pub least_is : (weight : ℕ → ℕ) (x : ℕ) (xs : List ℕ) → (k : ℕ) × (has (x ∷ xs) k ≡ true) × ((j : ℕ) → has (x ∷ xs) j ≡ true → weight k ≤ weight j)
least_is weight x [] = (x, has_here x [], λ j i. only j (has_cases x [] j i))
  where
    only : (j : ℕ) → (x ≡ j) ⊎ (has [] j ≡ true) → weight x ≤ weight j
    only j (inl e) = rw e (le_refl (weight j))
    only j (inr i) = absurd (false≢true i)
least_is weight x (y ∷ ys) = step (least_is weight y ys)
  where
    step : ((k : ℕ) × (has (y ∷ ys) k ≡ true) × ((j : ℕ) → has (y ∷ ys) j ≡ true → weight k ≤ weight j)) → (k : ℕ) × (has (x ∷ y ∷ ys) k ≡ true) × ((j : ℕ) → has (x ∷ y ∷ ys) j ≡ true → weight k ≤ weight j)
    step r = pick (cases_lt (weight r.0) (weight x))
      where
        down : weight x ≤ weight r.0 → (j : ℕ) → (x ≡ j) ⊎ (has (y ∷ ys) j ≡ true) → weight x ≤ weight j
        down l j (inl e) = rw e (le_refl (weight j))
        down l j (inr i) = le_trans l (r.2 j i)

        kept : weight r.0 < weight x → (j : ℕ) → (x ≡ j) ⊎ (has (y ∷ ys) j ≡ true) → weight r.0 ≤ weight j
        kept l j (inl e) = rw e at (let m : weight r.0 ≤ weight x = omega arith in m)
        kept l j (inr i) = r.2 j i

        pick : (weight r.0 < weight x) ⊎ (weight x ≤ weight r.0) → (k : ℕ) × (has (x ∷ y ∷ ys) k ≡ true) × ((j : ℕ) → has (x ∷ y ∷ ys) j ≡ true → weight k ≤ weight j)
        pick (inl l) = (r.0, has_later x (y ∷ ys) r.0 r.1, λ j i. kept l j (has_cases x (y ∷ ys) j i))
        pick (inr l) = (x, has_here x (y ∷ ys), λ j i. down l j (has_cases x (y ∷ ys) j i))

-- a member, by its place in the list
pub has_at : (xs : List ℕ) (k d : ℕ) → k < length xs → has xs (get_or xs k d) ≡ true
has_at [] k d l = absurd (omega arith)
has_at (x ∷ xs) zero d l = has_here x xs
has_at (x ∷ xs) (suc k) d l = has_later x xs (get_or xs k d) (has_at xs k d (omega arith))

-- a list with a member isn't empty
pub has_some : (xs : List ℕ) (x : ℕ) → has xs x ≡ true → 0 < length xs
has_some [] x h = absurd (false≢true h)
has_some (y ∷ ys) x h = omega arith

pub some_head : (xs : List ℕ) → 0 < length xs → (y : ℕ) × (ys : List ℕ) × (xs ≡ y ∷ ys)
some_head [] h = absurd (omega arith)
some_head (y ∷ ys) h = (y, ys, refl)

pub nat_eq_sym : (a b : ℕ) → (a == b) ≡ (b == a)
nat_eq_sym a b = grind (arith, nat_tests)

pub all_push : {X : Type 0} (test : X → Bool) (xs : List X) (x : X) → list_all test xs ≡ true → test x ≡ true → list_all test (xs ++ x ∷ []) ≡ true
all_push test xs x h t = list_all-append test xs (x ∷ []) ∙ and_from _ _ h (and_from _ _ t refl)

pub has_push_same : (xs : List ℕ) (x y : ℕ) → x ≡ y → has (xs ++ x ∷ []) y ≡ true
has_push_same xs x y e = list_any-append (λ z. z == y) xs (x ∷ []) ∙ or_right (has xs y) (has (x ∷ []) y) (or_left (x == y) false (eq-eqb x y e))

pub has_push_other : (xs : List ℕ) (x y : ℕ) → (x ≡ y → ⊥) → has (xs ++ x ∷ []) y ≡ has xs y
has_push_other xs x y n = list_any-append (λ z. z == y) xs (x ∷ []) ∙ ap (λ b. has xs y || (b || false)) (ne_eqb x y n) ∙ or-false (has xs y)
