-- When each item was covered, and the list that it keeps.
use Rattle.std.proofs.Common.{◌≡◌, refl, sym, ap, ◌∙◌, ℕ, suc, zero, ◌+◌, ◌-◌, ◌<◌, ◌≤◌, Bool, true, false, not, ◌&&◌, ◌||◌, cond, List, [], ◌∷◌, ◌++◌, map, filter, replicate, length, get_or, take, All, nat_lt, ◌==◌, arith, inl, inr, ◌⊎◌, add-zero, ltb-true, ltb-false, lt-ltb, le-ltb, eq-eqb, ne_eqb, le_refl, take_all}
use Rattle.std.specs.List.{list_any, position_or_len, before_first}
use Rattle.std.proofs.lemmas.Bool.{cases_lt}
use Rattle.std.proofs.lemmas.List.Sums.{prefix_len-le-length}
use Rattle.std.proofs.lemmas.List.Folds.{position_or_len_push}
use Rattle.shared_words.specs.Lists.{has, numbers}
use Rattle.cover_problem.specs.Problem.{ProblemValue, IsProblem}
use Rattle.cover_problem.specs.Covering.{remaining, list_of}
use Rattle.cover_problem.specs.Plain.{holding, time_of, times_of, is_in}
use Rattle.cover_problem.proofs.MemberLemmas.{has_push_same, has_push_other}
use Rattle.cover_problem.proofs.NumberLemmas.{filter_on, item_at}
use Rattle.cover_problem.proofs.HolderLemmas.{item_range, option_here}

abbrev pub place : List ℕ → ℕ → ℕ
place c x = position_or_len (λ y. y == x) c

place_within : (c : List ℕ) (x : ℕ) → place c x ≤ length c
place_within c x = prefix_len-le-length (λ y. not (y == x)) c

above_test : (m n : ℕ) → nat_lt m n ≡ nat_lt (1 + m) (suc n)
above_test m n = by (cases_lt m n)
  where
    by : (m < n) ⊎ (n ≤ m) → nat_lt m n ≡ nat_lt (1 + m) (suc n)
    by (inl l) = lt-ltb m n l ∙ sym (lt-ltb (1 + m) (suc n) (omega arith))
    by (inr l) = le-ltb m n l ∙ sym (le-ltb (1 + m) (suc n) (omega arith))

has_take : (c : List ℕ) (x n : ℕ) → n ≤ length c → has (take n c) x ≡ nat_lt (place c x) n
has_take [] x zero l = refl
has_take [] x (suc n) l = absurd (omega arith)
has_take (y ∷ ys) x zero l = sym (le-ltb (place (y ∷ ys) x) 0 (omega arith))
has_take (y ∷ ys) x (suc n) l = by (y == x) (has_take ys x n (omega arith))
  where
    by : (b : Bool) → has (take n ys) x ≡ nat_lt (place ys x) n → (b || has (take n ys) x) ≡ nat_lt (cond (not b) (1 + place ys x) 0) (suc n)
    by true ih = sym (lt-ltb 0 (suc n) (omega arith))
    by false ih = ih ∙ above_test (place ys x) n

has_place : (c : List ℕ) (x : ℕ) → has c x ≡ nat_lt (place c x) (length c)
has_place c x = ap (λ xs. has xs x) (sym (take_all (length c) c (le_refl (length c)))) ∙ has_take c x (length c) (le_refl (length c))

times_compare : (p q len never : ℕ) → p ≤ len → q ≤ len → len < never → nat_lt p q ≡ nat_lt (cond (nat_lt p len) p never) (cond (nat_lt q len) q never)
times_compare p q len never a b l = by (cases_lt p len) (cases_lt q len)
  where
    both : nat_lt p len ≡ true → nat_lt q len ≡ true → nat_lt p q ≡ nat_lt (cond (nat_lt p len) p never) (cond (nat_lt q len) q never)
    both e f = rw (e, f) refl

    first : p < len → len ≤ q → nat_lt p len ≡ true → nat_lt q len ≡ false → nat_lt p q ≡ nat_lt (cond (nat_lt p len) p never) (cond (nat_lt q len) q never)
    first m n e f = rw (e, f) (lt-ltb p q (omega arith) ∙ sym (lt-ltb p never (omega arith)))

    second : len ≤ p → q < len → nat_lt p len ≡ false → nat_lt q len ≡ true → nat_lt p q ≡ nat_lt (cond (nat_lt p len) p never) (cond (nat_lt q len) q never)
    second m n e f = rw (e, f) (le-ltb p q (omega arith) ∙ sym (le-ltb never q (omega arith)))

    none : len ≤ p → len ≤ q → nat_lt p len ≡ false → nat_lt q len ≡ false → nat_lt p q ≡ nat_lt (cond (nat_lt p len) p never) (cond (nat_lt q len) q never)
    none m n e f = rw (e, f) (le-ltb p q (omega arith) ∙ sym (le-ltb never never (le_refl never)))

    by : (p < len) ⊎ (len ≤ p) → (q < len) ⊎ (len ≤ q) → nat_lt p q ≡ nat_lt (cond (nat_lt p len) p never) (cond (nat_lt q len) q never)
    by (inl m) (inl n) = both (lt-ltb p len m) (lt-ltb q len n)
    by (inl m) (inr n) = first m n (lt-ltb p len m) (le-ltb q len n)
    by (inr m) (inl n) = second m n (le-ltb p len m) (lt-ltb q len n)
    by (inr m) (inr n) = none m n (le-ltb p len m) (le-ltb q len n)

module _ (never : ℕ) (c : List ℕ) (short : length c < never) where
  -- an item comes before j among the covered ones where its time is less
  time_before : (i j : ℕ) → has (before_first (λ x. x == j) c) i ≡ nat_lt (time_of never c i) (time_of never c j)
  time_before i j =
      has_take c i (place c j) (place_within c j) ∙ times_compare (place c i) (place c j) (length c) never (place_within c i) (place_within c j) short
      ∙ ap (λ b. nat_lt (cond b (place c i) never) (cond (nat_lt (place c j) (length c)) (place c j) never)) (sym (has_place c i))
      ∙ ap (λ b. nat_lt (time_of never c i) (cond b (place c j) never)) (sym (has_place c j))

  pub is_never : (i : ℕ) → (time_of never c i == never) ≡ not (has c i)
  is_never i = by (has c i) refl
    where
      by : (b : Bool) → has c i ≡ b → (cond b (place c i) never == never) ≡ not b
      by true e = let m = ltb-true (place c i) (length c) (sym (has_place c i) ∙ e) in ne_eqb (place c i) never (λ q. omega arith)
      by false e = eq-eqb never never refl

any_on : (p q : ℕ → Bool) (xs : List ℕ) → All (λ x. p x ≡ q x) xs → list_any p xs ≡ list_any q xs
any_on p q [] h = refl
any_on p q (x ∷ xs) h =
    ap (λ b. b || list_any p xs) (h 0 x (omega arith)) ∙ ap (λ b. q x || b) (any_on p q xs (λ k d l. h (suc k) d (omega arith)))

filter_and : (a b : ℕ → Bool) (xs : List ℕ) → filter (λ k. a k && b k) xs ≡ filter b (filter a xs)
filter_and a b [] = refl
filter_and a b (x ∷ xs) = by (a x) (filter_and a b xs)
  where
    by : (c : Bool) → filter (λ k. a k && b k) xs ≡ filter b (filter a xs) → cond (c && b x) (x ∷ filter (λ k. a k && b k) xs) (filter (λ k. a k && b k) xs) ≡ filter b (cond c (x ∷ filter a xs) (filter a xs))
    by true ih = ap (λ ys. cond (b x) (x ∷ ys) ys) ih
    by false ih = ih

module _ (never : ℕ) (p : ProblemValue) (c : List ℕ) (sound : IsProblem p) (short : length c < never) where
  pub list_is : (j : ℕ) → list_of p c j ≡ filter (is_in p.options (times_of never (length p.names) c) (time_of never c j)) (holding p.options j)
  unfolding list_of remaining
  list_is j =
      filter_on (λ k. has (get_or p.options (k - 1) []) j && not (list_any (has (before_first (λ x. x == j) c)) (get_or p.options (k - 1) [])))
      (λ k. has (get_or p.options (k - 1) []) j && is_in p.options (times_of never (length p.names) c) (time_of never c j) k)
      (length p.options) 1
      (λ k a b. ap (λ t. has (get_or p.options (k - 1) []) j && not t)
      (any_on (has (before_first (λ x. x == j) c)) (λ i. nat_lt (get_or (times_of never (length p.names) c) (i - 1) 0) (time_of never c j)) (get_or p.options (k - 1) [])
      (λ m d l.
      let r = item_range (length p.names) (get_or p.options (k - 1) []) (option_here p sound k a b) m d l in
      time_before never c short (get_or (get_or p.options (k - 1) []) m d) j
      ∙ ap (λ t. nat_lt t (time_of never c j)) (sym (item_at (time_of never c) (length p.names) (get_or (get_or p.options (k - 1) []) m d) 0 r.0 r.1)))))
      ∙ filter_and (λ k. has (get_or p.options (k - 1) []) j) (is_in p.options (times_of never (length p.names) c) (time_of never c j)) (numbers (length p.options) 1)

last_place : (c : List ℕ) (i : ℕ) → has c i ≡ false → place (c ++ i ∷ []) i ≡ length c
last_place c i h =
    let w = place_within c i in
    let g = ltb-false (place c i) (length c) (sym (has_place c i) ∙ h) in
    let e : place c i ≡ length c = omega arith in
    position_or_len_push (λ y. y == i) c i ∙ ap (λ b. cond b (length c + cond (i == i) 0 1) (place c i)) (eq-eqb (place c i) (length c) e)
    ∙ ap (λ b. length c + cond b 0 1) (eq-eqb i i refl) ∙ add-zero (length c)

old_place : (c : List ℕ) (i x : ℕ) → has c x ≡ true → place (c ++ i ∷ []) x ≡ place c x
old_place c i x h =
    let l = ltb-true (place c x) (length c) (sym (has_place c x) ∙ h) in
    position_or_len_push (λ y. y == x) c i ∙ ap (λ b. cond b (length c + cond (i == x) 0 1) (place c x)) (ne_eqb (place c x) (length c) (λ q. omega arith))

pub new_time : (never : ℕ) (c : List ℕ) (i : ℕ) → has c i ≡ false → time_of never (c ++ i ∷ []) i ≡ length c
new_time never c i h = ap (λ b. cond b (place (c ++ i ∷ []) i) never) (has_push_same c i i refl) ∙ last_place c i h

pub old_time : (never : ℕ) (c : List ℕ) (i x : ℕ) → (x ≡ i → ⊥) → time_of never c x ≡ time_of never (c ++ i ∷ []) x
old_time never c i x d = by (has c x) refl
  where
    other : has (c ++ i ∷ []) x ≡ has c x
    other = has_push_other c i x (λ q. d (sym q))

    by : (b : Bool) → has c x ≡ b → time_of never c x ≡ time_of never (c ++ i ∷ []) x
    by true h = ap (λ b. cond b (place c x) never) h ∙ sym (ap (λ b. cond b (place (c ++ i ∷ []) x) never) (other ∙ h) ∙ old_place c i x h)
    by false h = ap (λ b. cond b (place c x) never) h ∙ sym (ap (λ b. cond b (place (c ++ i ∷ []) x) never) (other ∙ h))

pub times_none : (never n : ℕ) → replicate n never ≡ times_of never n []
times_none never n = from n 1
  where
    from : (n k : ℕ) → replicate n never ≡ map (time_of never []) (numbers n k)
    from zero k = refl
    from (suc n) k = ap (λ xs. never ∷ xs) (from n (suc k))
