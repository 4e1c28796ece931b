-- Walks along a list: what they find is a member, and the one that the definitions ask.
use Rattle.std.proofs.Common.{◌≡◌, refl, sym, ◌∙◌, ap₂, subst, ℕ, suc, zero, ◌+◌, ◌-◌, ◌<◌, ◌≤◌, Bool, true, false, cond, List, [], ◌∷◌, ◌++◌, filter, find, length, take, drop, All, Some, None, nat_lt, ◌==◌, arith, append-nil, one-add, ltb-true, ltb-false, lt-ltb, le-ltb, eq-eqb, le_refl, length-drop, take_all, Option, IfSome, unwrap_or}
use Rattle.std.specs.List.Sorted.{IsPartitionPoint}
use Rattle.std.specs.List.{prefix_len}
use Rattle.std.proofs.lemmas.List.Sums.{prefix_len_is}
use Rattle.shared_words.specs.Lists.{has, numbers, RisesFrom, above, below, last_of}
use Rattle.std.proofs.lemmas.Bool.{or_left, or_right}
use Rattle.std.proofs.lemmas.List.Elements.{filter-append}
use Rattle.cover_problem.proofs.NumberLemmas.{rises_numbers}

pub first_above : (test : ℕ → Bool) (o n : ℕ) (xs : List ℕ) → RisesFrom n xs → o < n → find test xs ≡ above o (filter test xs)
first_above test o n [] r l = refl
first_above test o n (x ∷ xs) r l = by (test x) (first_above test o (suc x) xs r.1 (let a = r.0 in omega arith))
  where
    at : nat_lt o x ≡ true
    at = lt-ltb o x (let a = r.0 in omega arith)

    by : (b : Bool) → find test xs ≡ above o (filter test xs) → cond b (Some x) (find test xs) ≡ above o (cond b (x ∷ filter test xs) (filter test xs))
    by true ih = rw at refl
    by false ih = ih

pub next_in : (test : ℕ → Bool) (o n : ℕ) (xs : List ℕ) → RisesFrom n xs → find test (drop (prefix_len (λ k. nat_lt k (o + 1)) xs) xs) ≡ above o (filter test xs)
next_in test o n [] r = refl
next_in test o n (x ∷ xs) r = by (nat_lt x (o + 1)) refl (next_in test o (suc x) xs r.1)
  where
    by : (b : Bool) → nat_lt x (o + 1) ≡ b → find test (drop (prefix_len (λ k. nat_lt k (o + 1)) xs) xs) ≡ above o (filter test xs) → find test (drop (cond b (1 + prefix_len (λ k. nat_lt k (o + 1)) xs) 0) (x ∷ xs)) ≡ above o (filter test (x ∷ xs))
    by false t ih = first_above test o x (x ∷ xs) (le_refl x, r.1) (let a = ltb-false x (o + 1) t in omega arith)
    by true t ih = rw one-add (ih ∙ skip (test x))
      where
        low : nat_lt o x ≡ false
        low = le-ltb o x (let a = ltb-true x (o + 1) t in omega arith)

        skip : (c : Bool) → above o (filter test xs) ≡ above o (cond c (x ∷ filter test xs) (filter test xs))
        skip true = rw low refl
        skip false = refl

none_below : (test : ℕ → Bool) (o n : ℕ) (xs : List ℕ) → RisesFrom n xs → o ≤ n → below o (filter test xs) ≡ None
none_below test o n [] r l = refl
none_below test o n (x ∷ xs) r l = by (test x) (none_below test o (suc x) xs r.1 (let a = r.0 in omega arith))
  where
    high : nat_lt x o ≡ false
    high = le-ltb x o (let a = r.0 in omega arith)

    by : (b : Bool) → below o (filter test xs) ≡ None → below o (cond b (x ∷ filter test xs) (filter test xs)) ≡ None
    by true ih = rw high refl
    by false ih = ih

pub prev_in : (test : ℕ → Bool) (o n : ℕ) (xs : List ℕ) → RisesFrom n xs → last_of (filter test (take (prefix_len (λ k. nat_lt k o) xs) xs)) ≡ below o (filter test xs)
prev_in test o n [] r = refl
prev_in test o n (x ∷ xs) r = by (nat_lt x o) refl (prev_in test o (suc x) xs r.1)
  where
    by : (b : Bool) → nat_lt x o ≡ b → last_of (filter test (take (prefix_len (λ k. nat_lt k o) xs) xs)) ≡ below o (filter test xs) → last_of (filter test (take (cond b (1 + prefix_len (λ k. nat_lt k o) xs) 0) (x ∷ xs))) ≡ below o (filter test (x ∷ xs))
    by false t ih = sym (none_below test o x (x ∷ xs) (le_refl x, r.1) (ltb-false x o t))
    by true t ih = rw one-add (both (test x))
      where
        both : (c : Bool) → last_of (cond c (x ∷ filter test (take (prefix_len (λ k. nat_lt k o) xs) xs)) (filter test (take (prefix_len (λ k. nat_lt k o) xs) xs))) ≡ below o (cond c (x ∷ filter test xs) (filter test xs))
        both true = rw (t, ih) refl
        both false = ih

pub last_push : (xs : List ℕ) (x : ℕ) → last_of (xs ++ x ∷ []) ≡ Some x
last_push [] x = refl
last_push (y ∷ ys) x = rw (last_push ys x) refl

pub last_yes : (test : ℕ → Bool) (xs ys : List ℕ) (x : ℕ) → xs ≡ ys ++ x ∷ [] → test x ≡ true → last_of (filter test xs) ≡ Some x
last_yes test xs ys x e t = rw (e, filter-append test ys (x ∷ []), t) (last_push (filter test ys) x)

pub last_no : (test : ℕ → Bool) (xs ys : List ℕ) (x : ℕ) → xs ≡ ys ++ x ∷ [] → test x ≡ false → last_of (filter test xs) ≡ last_of (filter test ys)
last_no test xs ys x e t = rw (e, filter-append test ys (x ∷ []), t, append-nil) refl

pub all_front : (P : ℕ → Type 0) (xs ys : List ℕ) (x : ℕ) → xs ≡ ys ++ x ∷ [] → All P xs → All P ys
all_front P xs ys x e h = front ys (subst (λ zs. All P zs) e h)
  where
    front : (zs : List ℕ) → All P (zs ++ x ∷ []) → All P zs
    front [] a k d l = absurd (omega arith)
    front (z ∷ zs) a zero d l = a zero d (omega arith)
    front (z ∷ zs) a (suc k) d l = front zs (λ j e m. a (suc j) e (omega arith)) k d (omega arith)

pub rest_is : (xs : List ℕ) (n : ℕ) → take (length xs - n) (drop n xs) ≡ drop n xs
rest_is xs n = take_all (length xs - n) (drop n xs) (let e = length-drop n xs in omega arith)

pub prefix_from_point : (test : ℕ → Bool) (xs : List ℕ) (n : ℕ) → n ≤ length xs → IsPartitionPoint (λ y. test y ≡ true) (λ y. test y ≡ false) xs n → prefix_len test xs ≡ n
prefix_from_point test xs n l point = prefix_len_is test xs n 0 l (λ k m. point.0 k 0 (omega arith) m) (λ m. point.1 n 0 (omega arith) m)

pub walk : (test : ℕ → Bool) (a d n k : ℕ) → a + 1 ≡ k + d → d ≤ n → find test (numbers (n - d) (k + d)) ≡ above a (filter test (numbers n k))
walk test a zero n k e l =
    let x : n - 0 ≡ n = omega arith in
    let y : k + 0 ≡ k = omega arith in
    ap₂ (λ m j. find test (numbers m j)) x y ∙ first_above test a k (numbers n k) (rises_numbers n k) (omega arith)
walk test a (suc d) zero k e l = absurd (omega arith)
walk test a (suc d) (suc n) k e l =
    let x : suc n - suc d ≡ n - d = omega arith in
    let y : k + suc d ≡ suc k + d = omega arith in
    ap₂ (λ m j. find test (numbers m j)) x y ∙ walk test a d n (suc k) (omega arith) (omega arith) ∙ skip (test k)
  where
    low : nat_lt a k ≡ false
    low = le-ltb a k (omega arith)

    skip : (b : Bool) → above a (filter test (numbers n (suc k))) ≡ above a (cond b (k ∷ filter test (numbers n (suc k))) (filter test (numbers n (suc k))))
    skip true = rw low refl
    skip false = refl

pub above_in : (n : ℕ) (xs : List ℕ) (found : Option ℕ) → found ≡ above n xs → IfSome found (λ k. has xs k ≡ true)
above_in n xs found e = subst (λ o. IfSome o (λ k. has xs k ≡ true)) (sym e) (from xs)
  where
    from : (ys : List ℕ) → IfSome (above n ys) (λ k. has ys k ≡ true)
    from [] = tt
    from (y ∷ ys) = by (nat_lt n y) (above n ys) (from ys)
      where
        by : (b : Bool) (o : Option ℕ) → IfSome o (λ k. has ys k ≡ true) → IfSome (cond b (Some y) o) (λ k. has (y ∷ ys) k ≡ true)
        by true o h = or_left (y == y) (has ys y) (eq-eqb y y refl)
        by false None h = tt
        by false (Some k) h = or_right (y == k) (has ys k) h

pub below_in : (n : ℕ) (xs : List ℕ) (found : Option ℕ) → found ≡ below n xs → IfSome found (λ k. has xs k ≡ true)
below_in n xs found e = subst (λ o. IfSome o (λ k. has xs k ≡ true)) (sym e) (from xs)
  where
    from : (ys : List ℕ) → IfSome (below n ys) (λ k. has ys k ≡ true)
    from [] = tt
    from (y ∷ ys) = by (nat_lt y n) (below n ys) (from ys)
      where
        by : (b : Bool) (o : Option ℕ) → IfSome o (λ k. has ys k ≡ true) → IfSome (cond b (Some (unwrap_or o y)) None) (λ k. has (y ∷ ys) k ≡ true)
        by true None h = or_left (y == y) (has ys y) (eq-eqb y y refl)
        by true (Some k) h = or_right (y == k) (has ys k) h
        by false o h = tt

pub last_in : (xs : List ℕ) (found : Option ℕ) → found ≡ last_of xs → IfSome found (λ k. has xs k ≡ true)
last_in xs found e = subst (λ o. IfSome o (λ k. has xs k ≡ true)) (sym e) (from xs)
  where
    from : (ys : List ℕ) → IfSome (last_of ys) (λ k. has ys k ≡ true)
    from [] = tt
    from (y ∷ ys) = by (last_of ys) (from ys)
      where
        by : (o : Option ℕ) → IfSome o (λ k. has ys k ≡ true) → has (y ∷ ys) (unwrap_or o y) ≡ true
        by None h = or_left (y == y) (has ys y) (eq-eqb y y refl)
        by (Some k) h = or_right (y == k) (has ys k) h
