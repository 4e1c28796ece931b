-- The members beside a number in a rising list, its last, and the first that passes a test.
use Rattle.std.proofs.Common.{◌≡◌, ℕ, zero, suc, ◌<◌, ◌≤◌, ◌⊎◌, ◌==◌, Bool, true, false, Option, Some, None, unwrap_or, List, [], ◌∷◌, length, get_or, find, refl, sym, ap, ◌∙◌, inl, inr, arith, le_refl}
use Rattle.std.proofs.lemmas.Bool.{false≢true, or_left, cases_Bool, cases_lt, eq-eqb, lt-ltb, le-ltb, both_ways}
use Rattle.shared_words.specs.Lists.{has, RisesFrom, above, below, last_of}
use Rattle.std.specs.List.Sorted.{IsNonDecreasingBy}
use Rattle.cover_problem.proofs.MemberLemmas.{has_cases, has_here, has_later}
use Rattle.cover_problem.proofs.NumberLemmas.{rises_member}

-- the least member above a number
pub record IsAbove (o : ℕ) (xs : List ℕ) (k : ℕ) : Type 0 where
  pub member : has xs k ≡ true
  pub more : o < k
  pub least : (j : ℕ) → has xs j ≡ true → o < j → k ≤ j

-- the greatest member below a number
pub record IsBelow (o : ℕ) (xs : List ℕ) (k : ℕ) : Type 0 where
  pub member : has xs k ≡ true
  pub less : k < o
  pub greatest : (j : ℕ) → has xs j ≡ true → j < o → j ≤ k

pub above_is : (o n : ℕ) (xs : List ℕ) (k : ℕ) → RisesFrom n xs → above o xs ≡ Some k → IsAbove o xs k
above_is o n [] k r h = absurd (cc)
above_is o n (x ∷ xs) k r h = step (above_is o (suc x) xs k r.1) (cases_lt o x)
  where
    step : (above o xs ≡ Some k → IsAbove o xs k) → (o < x) ⊎ (x ≤ o) → IsAbove o (x ∷ xs) k
    step ih (inl a) =
        let e : Some x ≡ Some k = rw (lt-ltb o x a) at h in
        let f : x ≡ k = cc in
        record { member = or_left (x == k) (has xs k) (eq-eqb x k f); more = omega arith; least = λ j i l. first j f (has_cases x xs j i) }
      where
        first : (j : ℕ) → x ≡ k → (x ≡ j) ⊎ (has xs j ≡ true) → k ≤ j
        first j f (inl e) = omega arith
        first j f (inr i) = let s = rises_member (suc x) j xs r.1 i in omega arith
    step ih (inr b) =
        let e : above o xs ≡ Some k = rw (le-ltb o x b) at h in
        let s = ih e in
        record { member = has_later x xs k s.member; more = s.more; least = λ j i l. rest s j l (has_cases x xs j i) }
      where
        rest : IsAbove o xs k → (j : ℕ) → o < j → (x ≡ j) ⊎ (has xs j ≡ true) → k ≤ j
        rest s j l (inl e) = absurd (omega arith)
        rest s j l (inr i) = s.least j i l

pub above_none : (o : ℕ) (xs : List ℕ) → above o xs ≡ None → (j : ℕ) → has xs j ≡ true → j ≤ o
above_none o [] h j i = absurd (false≢true i)
above_none o (x ∷ xs) h j i = step (λ e. above_none o xs e j) (cases_lt o x) (has_cases x xs j i)
  where
    step : (above o xs ≡ None → has xs j ≡ true → j ≤ o) → (o < x) ⊎ (x ≤ o) → (x ≡ j) ⊎ (has xs j ≡ true) → j ≤ o
    step ih (inl a) c = let e : Some x ≡ None = rw (lt-ltb o x a) at h in absurd (cc)
    step ih (inr b) (inl e) = omega arith
    step ih (inr b) (inr i) = ih (rw (le-ltb o x b) at h) i

-- what a search for the member above answers, from what it is
above_some_or_none : (o : ℕ) (xs : List ℕ) → ((k : ℕ) × (above o xs ≡ Some k)) ⊎ (above o xs ≡ None)
above_some_or_none o xs = look (above o xs) refl
  where
    look : (a : Option ℕ) → above o xs ≡ a → ((k : ℕ) × (above o xs ≡ Some k)) ⊎ (above o xs ≡ None)
    look None e = inr e
    look (Some k) e = inl (k, e)

pub above_from : (o n : ℕ) (xs : List ℕ) (k : ℕ) → RisesFrom n xs → IsAbove o xs k → above o xs ≡ Some k
above_from o n xs k r s = step (above_some_or_none o xs)
  where
    step : ((j : ℕ) × (above o xs ≡ Some j)) ⊎ (above o xs ≡ None) → above o xs ≡ Some k
    step (inl f) = let a = above_is o n xs f.0 r f.1 in
        let up : k ≤ f.0 = s.least f.0 a.member a.more in
        let down : f.0 ≤ k = a.least k s.member s.more in
        let e : f.0 ≡ k = omega arith in f.1 ∙ ap {B = Option ℕ} Some e
    step (inr e) = let l = above_none o xs e k s.member in absurd (omega (arith, s.more))

pub above_none_from : (o n : ℕ) (xs : List ℕ) → RisesFrom n xs → ((j : ℕ) → has xs j ≡ true → j ≤ o) → above o xs ≡ None
above_none_from o n xs r all = step (above_some_or_none o xs)
  where
    step : ((j : ℕ) × (above o xs ≡ Some j)) ⊎ (above o xs ≡ None) → above o xs ≡ None
    step (inl f) = let a = above_is o n xs f.0 r f.1 in let l = all f.0 a.member in absurd (omega (arith, a.more))
    step (inr e) = e

below_some_or_none : (o : ℕ) (xs : List ℕ) → ((k : ℕ) × (below o xs ≡ Some k)) ⊎ (below o xs ≡ None)
below_some_or_none o xs = look (below o xs) refl
  where
    look : (a : Option ℕ) → below o xs ≡ a → ((k : ℕ) × (below o xs ≡ Some k)) ⊎ (below o xs ≡ None)
    look None e = inr e
    look (Some k) e = inl (k, e)

pub below_none : (o n : ℕ) (xs : List ℕ) → RisesFrom n xs → below o xs ≡ None → (j : ℕ) → has xs j ≡ true → o ≤ j
below_none o n [] r h j i = absurd (false≢true i)
below_none o n (x ∷ xs) r h j i = step (cases_lt x o)
  where
    step : (x < o) ⊎ (o ≤ x) → o ≤ j
    step (inl a) = let e : Some (unwrap_or (below o xs) x) ≡ None = rw (lt-ltb x o a) at h in absurd (cc)
    step (inr b) = let s = rises_member n j (x ∷ xs) r i in least (has_cases x xs j i)
      where
        least : (x ≡ j) ⊎ (has xs j ≡ true) → o ≤ j
        least (inl e) = omega arith
        least (inr i) = let s = rises_member (suc x) j xs r.1 i in omega arith

pub below_is : (o n : ℕ) (xs : List ℕ) (k : ℕ) → RisesFrom n xs → below o xs ≡ Some k → IsBelow o xs k
below_is o n [] k r h = absurd (cc)
below_is o n (x ∷ xs) k r h = step (λ j. below_is o (suc x) xs j r.1) (below_some_or_none o xs) (cases_lt x o)
  where
    past : (j : ℕ) → below o xs ≡ None → (x ≡ j) ⊎ (has xs j ≡ true) → j < o → j ≤ x
    past j f (inl e) l = omega arith
    past j f (inr i) l = let s = below_none o (suc x) xs r.1 f j i in absurd (omega arith)

    inner : IsBelow o xs k → (j : ℕ) → j < o → (x ≡ j) ⊎ (has xs j ≡ true) → j ≤ k
    inner s j l (inl e) = let m = rises_member (suc x) k xs r.1 s.member in omega arith
    inner s j l (inr i) = s.greatest j i l

    step : ((j : ℕ) → below o xs ≡ Some j → IsBelow o xs j) → ((j : ℕ) × (below o xs ≡ Some j)) ⊎ (below o xs ≡ None) → (x < o) ⊎ (o ≤ x) → IsBelow o (x ∷ xs) k
    step ih (inl f) (inl a) =
        let e : Some (unwrap_or (below o xs) x) ≡ Some k = rw (lt-ltb x o a) at h in
        let g : Some f.0 ≡ Some k = rw f.1 at e in
        let i : f.0 ≡ k = cc in
        let s : IsBelow o xs k = rw i at (ih f.0 f.1) in
        record { member = has_later x xs k s.member; less = s.less; greatest = λ j i l. inner s j l (has_cases x xs j i) }
    step ih (inr f) (inl a) =
        let e : Some (unwrap_or (below o xs) x) ≡ Some k = rw (lt-ltb x o a) at h in
        let g : Some x ≡ Some k = rw f at e in
        let i : x ≡ k = cc in
        record { member = or_left (x == k) (has xs k) (eq-eqb x k i); less = omega arith; greatest = λ j m l. rw i at (past j f (has_cases x xs j m) l) }
    step ih f (inr b) = let e : None ≡ Some k = rw (le-ltb x o b) at h in absurd (cc)

pub below_from : (o n : ℕ) (xs : List ℕ) (k : ℕ) → RisesFrom n xs → IsBelow o xs k → below o xs ≡ Some k
below_from o n xs k r s = step (below_some_or_none o xs)
  where
    step : ((j : ℕ) × (below o xs ≡ Some j)) ⊎ (below o xs ≡ None) → below o xs ≡ Some k
    step (inl f) = let a = below_is o n xs f.0 r f.1 in
        let up : k ≤ f.0 = a.greatest k s.member s.less in
        let down : f.0 ≤ k = s.greatest f.0 a.member a.less in
        let e : f.0 ≡ k = omega arith in f.1 ∙ ap {B = Option ℕ} Some e
    step (inr e) = let l = below_none o n xs r e k s.member in absurd (omega (arith, s.less))

pub below_none_from : (o n : ℕ) (xs : List ℕ) → RisesFrom n xs → ((j : ℕ) → has xs j ≡ true → o ≤ j) → below o xs ≡ None
below_none_from o n xs r all = step (below_some_or_none o xs)
  where
    step : ((j : ℕ) × (below o xs ≡ Some j)) ⊎ (below o xs ≡ None) → below o xs ≡ None
    step (inl f) = let a = below_is o n xs f.0 r f.1 in let l = all f.0 a.member in absurd (omega (arith, a.less))
    step (inr e) = e

-- each undoes the other
pub below_above : (o n k : ℕ) (xs : List ℕ) → RisesFrom n xs → has xs o ≡ true → above o xs ≡ Some k → below k xs ≡ Some o
below_above o n k xs r i h = let a = above_is o n xs k r h in
    below_from k n xs o r (record { member = i; less = a.more; greatest = λ j m l. up a j m l (cases_lt o j) })
  where
    up : IsAbove o xs k → (j : ℕ) → has xs j ≡ true → j < k → (o < j) ⊎ (j ≤ o) → j ≤ o
    up a j m l (inl b) = let s = a.least j m b in absurd (omega arith)
    up a j m l (inr b) = b

pub above_below : (o n k : ℕ) (xs : List ℕ) → RisesFrom n xs → has xs k ≡ true → below k xs ≡ Some o → above o xs ≡ Some k
above_below o n k xs r i h = let a = below_is k n xs o r h in
    above_from o n xs k r (record { member = i; more = a.less; least = λ j m l. down a j m l (cases_lt j k) })
  where
    down : IsBelow k xs o → (j : ℕ) → has xs j ≡ true → o < j → (j < k) ⊎ (k ≤ j) → k ≤ j
    down a j m l (inl b) = let s = a.greatest j m b in absurd (omega arith)
    down a j m l (inr b) = b

-- the last member is the one below a number above all
pub last_below : (o n : ℕ) (xs : List ℕ) → RisesFrom n xs → ((j : ℕ) → has xs j ≡ true → j < o) → below o xs ≡ last_of xs
last_below o n [] r all = refl
last_below o n (x ∷ xs) r all = rw (lt-ltb x o (all x (has_here x xs))) (ap (λ (m : Option ℕ). Some (unwrap_or m x)) (last_below o (suc x) xs r.1 (λ j i. all j (has_later x xs j i))))

pub last_is : (n : ℕ) (xs : List ℕ) (k : ℕ) → RisesFrom n xs → last_of xs ≡ Some k → (has xs k ≡ true) × ((j : ℕ) → has xs j ≡ true → j ≤ k)
last_is n [] k r h = absurd (cc)
last_is n (x ∷ xs) k r h = step (λ j. last_is (suc x) xs j r.1) (look (last_of xs) refl)
  where
    look : (a : Option ℕ) → last_of xs ≡ a → ((j : ℕ) × (last_of xs ≡ Some j)) ⊎ (last_of xs ≡ None)
    look None e = inr e
    look (Some j) e = inl (j, e)

    only : (ys : List ℕ) → last_of ys ≡ None → (j : ℕ) → has ys j ≡ true → ⊥
    only [] e j i = false≢true i
    only (y ∷ ys) e j i = cc

    under : (j : ℕ) → (has xs k ≡ true) × ((j : ℕ) → has xs j ≡ true → j ≤ k) → (x ≡ j) ⊎ (has xs j ≡ true) → j ≤ k
    under j s (inl e) = let m = rises_member (suc x) k xs r.1 s.0 in omega arith
    under j s (inr i) = s.1 j i

    alone : (j : ℕ) → last_of xs ≡ None → x ≡ k → (x ≡ j) ⊎ (has xs j ≡ true) → j ≤ k
    alone j f e (inl g) = omega arith
    alone j f e (inr i) = absurd (only xs f j i)

    step : ((j : ℕ) → last_of xs ≡ Some j → (has xs j ≡ true) × ((i : ℕ) → has xs i ≡ true → i ≤ j)) → ((j : ℕ) × (last_of xs ≡ Some j)) ⊎ (last_of xs ≡ None) → (has (x ∷ xs) k ≡ true) × ((j : ℕ) → has (x ∷ xs) j ≡ true → j ≤ k)
    step ih (inl f) =
        let g : Some f.0 ≡ Some k = rw f.1 at h in
        let i : f.0 ≡ k = cc in
        let s : (has xs k ≡ true) × ((j : ℕ) → has xs j ≡ true → j ≤ k) = rw i at (ih f.0 f.1) in
        (has_later x xs k s.0, λ j m. under j s (has_cases x xs j m))
    step ih (inr f) =
        let g : Some x ≡ Some k = rw f at h in
        let i : x ≡ k = cc in
        (or_left (x == k) (has xs k) (eq-eqb x k i), λ j m. alone j f i (has_cases x xs j m))

pub last_none : (xs : List ℕ) → last_of xs ≡ None → xs ≡ []
last_none [] h = refl
last_none (x ∷ xs) h = absurd (cc)

-- past the last member is none above
pub above_last : (o n : ℕ) (xs : List ℕ) → RisesFrom n xs → last_of xs ≡ Some o → above o xs ≡ None
above_last o n xs r h = let s = last_is n xs o r h in above_none_from o n xs r s.1

pub last_above : (o n : ℕ) (xs : List ℕ) → RisesFrom n xs → has xs o ≡ true → above o xs ≡ None → last_of xs ≡ Some o
last_above o n xs r i h =
    let all = above_none o xs h in
    sym (last_below (suc o) n xs r (λ j m. let l = all j m in omega arith)) ∙ below_from (suc o) n xs o r (record { member = i; less = le_refl (suc o); greatest = λ j m l. all j m })

-- with no number 0 the first member is the one above 0
pub last_first : (n : ℕ) (xs : List ℕ) → RisesFrom (suc n) xs → above 0 xs ≡ None → last_of xs ≡ None
last_first n [] r h = refl
last_first n (x ∷ xs) r h = let l = above_none 0 (x ∷ xs) h x (has_here x xs) in absurd (omega (arith, r.0))

-- the first member that passes
pub record IsFirst (test : ℕ → Bool) (xs : List ℕ) (k : ℕ) : Type 0 where
  pub member : has xs k ≡ true
  pub passes : test k ≡ true
  pub first : (j : ℕ) → has xs j ≡ true → test j ≡ true → k ≤ j

pub find_first : (test : ℕ → Bool) (n : ℕ) (xs : List ℕ) (x : ℕ) → RisesFrom n xs → has xs x ≡ true → test x ≡ true → IsFirst test xs (unwrap_or (find test xs) 0)
find_first test n [] x r h t = absurd (false≢true h)
find_first test n (y ∷ ys) x r h t = step (λ i. find_first test (suc y) ys x r.1 i t) (cases_Bool (test y)) (has_cases y ys x h)
  where
    under : (j : ℕ) → (y ≡ j) ⊎ (has ys j ≡ true) → y ≤ j
    under j (inl e) = omega arith
    under j (inr i) = let s = rises_member (suc y) j ys r.1 i in omega arith

    rest : test y ≡ false → IsFirst test ys (unwrap_or (find test ys) 0) → (j : ℕ) → test j ≡ true → (y ≡ j) ⊎ (has ys j ≡ true) → unwrap_or (find test ys) 0 ≤ j
    rest b s j u (inl e) = absurd (both_ways (test j) (rw e at b) u)
    rest b s j u (inr i) = s.first j i u

    step : (has ys x ≡ true → IsFirst test ys (unwrap_or (find test ys) 0)) → (test y ≡ true) ⊎ (test y ≡ false) → (y ≡ x) ⊎ (has ys x ≡ true) → IsFirst test (y ∷ ys) (unwrap_or (find test (y ∷ ys)) 0)
    step ih (inl a) c = rw a (record { member = has_here y ys; passes = a; first = λ j i u. under j (has_cases y ys j i) })
    step ih (inr b) (inl e) = absurd (both_ways (test y) b (rw e t))
    step ih (inr b) (inr i) = let s = ih i in rw b (record { member = has_later y ys (unwrap_or (find test ys) 0) s.member; passes = s.passes; first = λ j i u. rest b s j u (has_cases y ys j i) })

rises_at : (n : ℕ) (xs : List ℕ) → RisesFrom n xs → (i d : ℕ) → i < length xs → n ≤ get_or xs i d
rises_at n [] r i d l = absurd (omega arith)
rises_at n (x ∷ xs) r zero d l = r.0
rises_at n (x ∷ xs) r (suc i) d l = let a = r.0 in let b = rises_at (suc x) xs r.1 i d (omega arith) in omega arith

pub rising : (n : ℕ) (xs : List ℕ) → RisesFrom n xs → IsNonDecreasingBy (λ k. k) xs
rising n [] r i j d a l = absurd (omega arith)
rising n (x ∷ xs) r zero zero d a l = le_refl x
rising n (x ∷ xs) r zero (suc j) d a l = let b = rises_at (suc x) xs r.1 j d (omega arith) in omega arith
rising n (x ∷ xs) r (suc i) zero d a l = absurd (omega arith)
rising n (x ∷ xs) r (suc i) (suc j) d a l = rising (suc x) xs r.1 i j d (omega arith) (omega arith)
