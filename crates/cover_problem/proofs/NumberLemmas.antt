-- Numbers in a row, and rising lists.
use Rattle.std.proofs.Common.{◌≡◌, ℕ, zero, suc, ◌+◌, ◌<◌, ◌≤◌, ◌⊎◌, ◌==◌, Bool, true, false, not, ◌&&◌, cond, Some, List, [], ◌∷◌, ◌++◌, length, get_or, filter, find, refl, sym, ap, ◌∙◌, inl, inr, arith, le_refl, le_trans, add-one, ◌-◌, map, set, All, add-zero}
use Rattle.std.proofs.lemmas.Bool.{false≢true, or_left, cases_Bool, cases_eq, eq-eqb, ne_eqb}
use Rattle.shared_words.specs.Lists.{has, numbers, RisesFrom}
use Rattle.cover_problem.proofs.MemberLemmas.{has_cases, has_later, filter_agree_on}

-- numbers in a row
pub has_numbers_in : (n k x : ℕ) → has (numbers n k) x ≡ true → (k ≤ x) × (x < k + n)
has_numbers_in zero k x h = absurd (false≢true h)
has_numbers_in (suc n) k x h = step (has_numbers_in n (suc k) x) (has_cases k (numbers n (suc k)) x h)
  where
    step : (has (numbers n (suc k)) x ≡ true → (suc k ≤ x) × (x < suc k + n)) → (k ≡ x) ⊎ (has (numbers n (suc k)) x ≡ true) → (k ≤ x) × (x < k + suc n)
    step ih (inl e) = omega arith
    step ih (inr i) = let r = ih i in omega arith

pub has_numbers : (n k x : ℕ) → k ≤ x → x < k + n → has (numbers n k) x ≡ true
has_numbers zero k x a b = absurd (omega arith)
has_numbers (suc n) k x a b = step (has_numbers n (suc k) x) (cases_eq k x)
  where
    step : (suc k ≤ x → x < suc k + n → has (numbers n (suc k)) x ≡ true) → (k ≡ x) ⊎ (k ≡ x → ⊥) → has (numbers (suc n) k) x ≡ true
    step ih (inl e) = or_left (k == x) (has (numbers n (suc k)) x) (eq-eqb k x e)
    step ih (inr e) = has_later k (numbers n (suc k)) x (ih (omega arith) (omega arith))

pub length-numbers : (n k : ℕ) → length (numbers n k) ≡ n
length-numbers zero k = refl
length-numbers (suc n) k = ap suc (length-numbers n (suc k))

-- without one number at most one less passes
pub filter_but_one : (t : ℕ → Bool) (x n k : ℕ) → length (filter t (numbers n k)) ≤ suc (length (filter (λ i. not (x == i) && t i) (numbers n k)))
filter_but_one t x zero k = omega arith
filter_but_one t x (suc n) k = step (filter_but_one t x n (suc k)) (cases_eq x k) (cases_Bool (t k))
  where
    same : (i : ℕ) → has (numbers n (suc k)) i ≡ true → x ≡ k → t i ≡ (not (x == i) && t i)
    same i h e = let r = has_numbers_in n (suc k) i h in let f : x == i ≡ false = ne_eqb x i (λ d. omega arith) in rw f refl

    step : length (filter t (numbers n (suc k))) ≤ suc (length (filter (λ i. not (x == i) && t i) (numbers n (suc k)))) → (x ≡ k) ⊎ (x ≡ k → ⊥) → (t k ≡ true) ⊎ (t k ≡ false) → length (filter t (numbers (suc n) k)) ≤ suc (length (filter (λ i. not (x == i) && t i) (numbers (suc n) k)))
    step ih (inl e) (inl b) = let f : x == k ≡ true = eq-eqb x k e in let g = ap length (filter_agree_on t (λ i. not (x == i) && t i) (numbers n (suc k)) (λ i h. same i h e)) in rw (b, f) (omega arith)
    step ih (inl e) (inr b) = let f : x == k ≡ true = eq-eqb x k e in rw (b, f) ih
    step ih (inr e) (inl b) = let f : x == k ≡ false = ne_eqb x k e in rw (b, f) (omega arith)
    step ih (inr e) (inr b) = let f : x == k ≡ false = ne_eqb x k e in rw (b, f) ih

-- rising lists
pub rises_weaker : (m n : ℕ) (xs : List ℕ) → m ≤ n → RisesFrom n xs → RisesFrom m xs
rises_weaker m n [] le h = tt
rises_weaker m n (x ∷ xs) le h = (le_trans le h.0, h.1)

pub rises_filter : (test : ℕ → Bool) (n k : ℕ) → RisesFrom k (filter test (numbers n k))
rises_filter test zero k = tt
rises_filter test (suc n) k = step (rises_filter test n (suc k)) (cases_Bool (test k))
  where
    step : RisesFrom (suc k) (filter test (numbers n (suc k))) → (test k ≡ true) ⊎ (test k ≡ false) → RisesFrom k (filter test (numbers (suc n) k))
    step ih (inl t) = rw t (le_refl k, ih)
    step ih (inr t) = rw t (rises_weaker k (suc k) (filter test (numbers n (suc k))) (omega arith) ih)

pub rises_member : (n x : ℕ) (xs : List ℕ) → RisesFrom n xs → has xs x ≡ true → n ≤ x
rises_member n x [] r h = absurd (false≢true h)
rises_member n x (y ∷ ys) r h = step (rises_member (suc y) x ys r.1) (has_cases y ys x h)
  where
    step : (has ys x ≡ true → suc y ≤ x) → (y ≡ x) ⊎ (has ys x ≡ true) → n ≤ x
    step ih (inl e) = omega (arith, r.0)
    step ih (inr i) = let s = ih i in omega (arith, r.0)

pub rises_numbers : (n k : ℕ) → RisesFrom k (numbers n k)
rises_numbers zero k = tt
rises_numbers (suc n) k = (le_refl k, rises_numbers n (suc k))

-- two tests that agree at each of the numbers keep the same ones
pub filter_on : (p q : ℕ → Bool) (n k : ℕ) → ((x : ℕ) → k ≤ x → x < k + n → p x ≡ q x) → filter p (numbers n k) ≡ filter q (numbers n k)
filter_on p q n k same = filter_agree_on p q (numbers n k) (λ x h. let r = has_numbers_in n k x h in same x r.0 r.1)

pub number_at : {X : Type 0} (f : ℕ → X) (n k d : ℕ) (e : X) → d < n → get_or (map f (numbers n k)) d e ≡ f (k + d)
number_at f zero k d e l = absurd (omega arith)
number_at f (suc n) k zero e l = ap f (sym (add-zero k))
number_at f (suc n) k (suc d) e l =
    let q : suc k + d ≡ k + suc d = omega arith in
    let l' : d < n = omega arith in
    number_at f n (suc k) d e l' ∙ ap f q

same_numbers : {X : Type 0} (f g : ℕ → X) (n k : ℕ) → ((x : ℕ) → k ≤ x → f x ≡ g x) → map f (numbers n k) ≡ map g (numbers n k)
same_numbers f g zero k same = refl
same_numbers f g (suc n) k same =
    ap (λ x. x ∷ map f (numbers n (suc k))) (same k (le_refl k)) ∙ ap (λ xs. g k ∷ xs) (same_numbers f g n (suc k) (λ x l. same x (omega arith)))

set_at : {X : Type 0} (f g : ℕ → X) (n k d : ℕ) (at : ℕ) → d < n → at ≡ k + d → ((x : ℕ) → (x ≡ at → ⊥) → f x ≡ g x) → set (map f (numbers n k)) d (g at) ≡ map g (numbers n k)
set_at f g zero k d at l e same = absurd (omega arith)
set_at f g (suc n) k zero at l e same =
    let q : at ≡ k = omega arith in
    ap (λ x. g x ∷ map f (numbers n (suc k))) q ∙ ap (λ xs. g k ∷ xs) (same_numbers f g n (suc k) (λ x h. same x (λ z. omega arith)))
set_at f g (suc n) k (suc d) at l e same =
    let l' : d < n = omega arith in
    let q : at ≡ suc k + d = omega arith in
    ap (λ x. x ∷ set (map f (numbers n (suc k))) d (g at)) (same k (λ z. omega arith)) ∙ ap (λ xs. g k ∷ xs) (set_at f g n (suc k) d at l' q same)

-- one place of a row is written
pub set_number : {X : Type 0} (f g : ℕ → X) (n i : ℕ) → 0 < i → i ≤ n → ((x : ℕ) → (x ≡ i → ⊥) → f x ≡ g x) → set (map f (numbers n 1)) (i - 1) (g i) ≡ map g (numbers n 1)
set_number f g n i some within same =
    let l : i - 1 < n = omega arith in
    let e : i ≡ 1 + (i - 1) = omega arith in
    set_at f g n 1 (i - 1) i l e same

pub item_at : {X : Type 0} (f : ℕ → X) (n i : ℕ) (e : X) → 0 < i → i ≤ n → get_or (map f (numbers n 1)) (i - 1) e ≡ f i
item_at f n i e some within =
    let l : i - 1 < n = omega arith in
    let q : 1 + (i - 1) ≡ i = omega arith in
    number_at f n 1 (i - 1) e l ∙ ap f q

-- a walk over numbers
pub find_next : (test : ℕ → Bool) (n i : ℕ) → i < n + 1 → test i ≡ false → find test (numbers (n + 1 - i) i) ≡ find test (numbers (n + 1 - (i + 1)) (i + 1))
find_next test n i l t =
    let e : n + 1 - i ≡ suc (n + 1 - (i + 1)) = omega arith in
    rw (e, t, add-one i) refl

pub numbers_push : (n k : ℕ) → numbers (suc n) k ≡ numbers n k ++ (k + n) ∷ []
numbers_push zero k = ap (λ x. x ∷ []) (sym (add-zero k))
numbers_push (suc n) k =
    let e : suc k + n ≡ k + suc n = omega arith in
    ap (λ xs. k ∷ xs) (numbers_push n (suc k) ∙ ap (λ x. numbers n (suc k) ++ x ∷ []) e)

pub numbers_all : (P : ℕ → Type 0) (n k : ℕ) → ((x : ℕ) → k ≤ x → x < k + n → P x) → All P (numbers n k)
numbers_all P zero k h m d l = absurd (omega arith)
numbers_all P (suc n) k h zero d l = h k (le_refl k) (omega arith)
numbers_all P (suc n) k h (suc m) d l = numbers_all P n (suc k) (λ x a b. h x (omega arith) (omega arith)) m d (omega arith)

pub find_on : (p q : ℕ → Bool) (n k : ℕ) → ((x : ℕ) → k ≤ x → x < k + n → p x ≡ q x) → find p (numbers n k) ≡ find q (numbers n k)
find_on p q zero k same = refl
find_on p q (suc n) k same =
    ap (λ b. cond b (Some k) (find p (numbers n (suc k)))) (same k (le_refl k) (omega arith))
    ∙ ap (λ r. cond (q k) (Some k) r) (find_on p q n (suc k) (λ x l m. same x (omega arith) (omega arith)))
