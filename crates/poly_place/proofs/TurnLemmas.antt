-- Two leaves share a node, reached from the right by the one and from the left by the other, exactly where the one is greater.
use Rattle.std.proofs.Common.{◌≡◌, ℕ, zero, suc, ◌*◌, ◌^◌, ◌/◌, ◌%◌, ◌<◌, ◌≤◌, ◌==◌, List, ◌∷◌, Bool, true, false, cond, ◌⊎◌, inl, inr, refl, sym, subst, arith, eqb-true, eq-eqb}
use Rattle.std.proofs.lemmas.Bool.{cond-true, cases_lt}
use Rattle.std.proofs.Math.Nat.{pow-suc}
use Rattle.std.proofs.lemmas.Nat.{pow_pos}
use Rattle.poly_cells.specs.Sets.{IsIn}
use Rattle.poly_place.specs.Turns.{from_right, from_left, leaf}

-- a node so many levels below the root
pub record IsBelow (k n : ℕ) : Type 0 where
  pub low : 2 ^ k ≤ n
  pub high : n < 2 * 2 ^ k

pub up : (k n : ℕ) → IsBelow (suc k) n → IsBelow k (n / 2)
up k n h = let e : 2 ^ suc k ≡ 2 ^ k * 2 = pow-suc 2 k in let l = h.low in let u = h.high in record { low = omega arith; high = omega arith }

-- ---- members

-- of a list with one in front where a test passes
in_cond : (b : Bool) (x h : ℕ) (xs : List ℕ) → IsIn h (cond b (x ∷ xs) xs) → ((b ≡ true) × (h ≡ x)) ⊎ IsIn h xs
in_cond true x h xs i = elim i [ inl e ↦ inl (refl, e) | inr r ↦ inr r ]
in_cond false x h xs i = inr i

cond_later : (b : Bool) (x h : ℕ) (xs : List ℕ) → IsIn h xs → IsIn h (cond b (x ∷ xs) xs)
cond_later true x h xs i = inr i
cond_later false x h xs i = i

cond_first : (b : Bool) (x : ℕ) (xs : List ℕ) → b ≡ true → IsIn x (cond b (x ∷ xs) xs)
cond_first b x xs e = subst (λ (l : List ℕ). IsIn x l) (sym (cond-true b (x ∷ xs) xs e)) (inl refl)

-- ---- nodes above are fewer levels below the root

pub right_above : (k n h : ℕ) → IsBelow k n → IsIn h (from_right k n) → h < 2 ^ k
right_above zero n h b i = absurd i
right_above (suc k) n h b i =
    let e : 2 ^ suc k ≡ 2 ^ k * 2 = pow-suc 2 k in
    let u = up k n b in
    elim (in_cond (n % 2 == 1) (n / 2) h (from_right k (n / 2)) i) [
      | inl l ↦ let s = l.1 in let q = u.high in omega arith
      | inr r ↦ let q = right_above k (n / 2) h u r in omega arith
    ]

pub left_above : (k n h : ℕ) → IsBelow k n → IsIn h (from_left k n) → h < 2 ^ k
left_above zero n h b i = absurd i
left_above (suc k) n h b i =
    let e : 2 ^ suc k ≡ 2 ^ k * 2 = pow-suc 2 k in
    let u = up k n b in
    elim (in_cond (n % 2 == 0) (n / 2) h (from_left k (n / 2)) i) [
      | inl l ↦ let s = l.1 in let q = u.high in omega arith
      | inr r ↦ let q = left_above k (n / 2) h u r in omega arith
    ]

-- ---- and no node is 0

pub right_some : (k n h : ℕ) → IsBelow k n → IsIn h (from_right k n) → 0 < h
right_some zero n h b i = absurd i
right_some (suc k) n h b i =
    let u = up k n b in
    let one = pow_pos k in
    elim (in_cond (n % 2 == 1) (n / 2) h (from_right k (n / 2)) i) [
      | inl l ↦ let s = l.1 in let q = u.low in omega arith
      | inr r ↦ right_some k (n / 2) h u r
    ]

pub left_some : (k n h : ℕ) → IsBelow k n → IsIn h (from_left k n) → 0 < h
left_some zero n h b i = absurd i
left_some (suc k) n h b i =
    let u = up k n b in
    let one = pow_pos k in
    elim (in_cond (n % 2 == 0) (n / 2) h (from_left k (n / 2)) i) [
      | inl l ↦ let s = l.1 in let q = u.low in omega arith
      | inr r ↦ left_some k (n / 2) h u r
    ]

-- ---- a shared node tells which is greater

pub share_greater : (k m n h : ℕ) → IsBelow k m → IsBelow k n → IsIn h (from_right k m) → IsIn h (from_left k n) → n < m
share_greater zero m n h a b i j = absurd i
share_greater (suc k) m n h a b i j =
    let ua = up k m a in
    let ub = up k n b in
    let la = ua.low in
    let lb = ub.low in
    elim (in_cond (m % 2 == 1) (m / 2) h (from_right k (m / 2)) i) [
      | inl p ↦ elim (in_cond (n % 2 == 0) (n / 2) h (from_left k (n / 2)) j) [
        | inl q ↦ let odd = eqb-true (m % 2) 1 p.0 in let even = eqb-true (n % 2) 0 q.0 in let one = p.1 in let other = q.1 in omega arith
        | inr q ↦ let past = left_above k (n / 2) h ub q in let one = p.1 in absurd (omega arith)
      ]
      | inr p ↦ elim (in_cond (n % 2 == 0) (n / 2) h (from_left k (n / 2)) j) [
        | inl q ↦ let past = right_above k (m / 2) h ua p in let one = q.1 in absurd (omega arith)
        | inr q ↦ let more = share_greater k (m / 2) (n / 2) h ua ub p q in omega arith
      ]
    ]

-- ---- where one is greater they share a node

pub greater_shares : (k m n : ℕ) → IsBelow k m → IsBelow k n → n < m → (h : ℕ) × IsIn h (from_right k m) × IsIn h (from_left k n)
greater_shares zero m n a b lt = let u = a.high in let l = b.low in absurd (omega arith)
greater_shares (suc k) m n a b lt =
    elim (cases_lt (n / 2) (m / 2)) [
      | inl more ↦
          let rest = greater_shares k (m / 2) (n / 2) (up k m a) (up k n b) more in (
            rest.0,
            cond_later (m % 2 == 1) (m / 2) rest.0 (from_right k (m / 2)) rest.1,
            cond_later (n % 2 == 0) (n / 2) rest.0 (from_left k (n / 2)) rest.2,
          )
      | inr less ↦
          let same : m / 2 ≡ n / 2 = omega arith in (
            m / 2,
            cond_first (m % 2 == 1) (m / 2) (from_right k (m / 2)) (eq-eqb (m % 2) 1 (omega arith)),
            subst (λ (x : ℕ). IsIn x (from_left (suc k) n)) (sym same) (cond_first (n % 2 == 0) (n / 2) (from_left k (n / 2)) (eq-eqb (n % 2) 0 (omega arith))),
          )
    ]

-- ---- leaves

pub leaf_below : (k i : ℕ) → i < 2 ^ k → IsBelow k (leaf k i)
leaf_below k i h = record { low = omega arith; high = omega arith }

-- some node is reached from the right by the leaf of i and from the left by that of j exactly where i is greater
pub shared_exactly : (k i j : ℕ) → i < 2 ^ k → j < 2 ^ k
    → ((h : ℕ) → IsIn h (from_right k (leaf k i)) → IsIn h (from_left k (leaf k j)) → j < i)
    × (j < i → (h : ℕ) × IsIn h (from_right k (leaf k i)) × IsIn h (from_left k (leaf k j)))
shared_exactly k i j a b = (
  (λ h p q. let g = share_greater k (leaf k i) (leaf k j) h (leaf_below k i a) (leaf_below k j b) p q in omega arith),
  (λ lt. greater_shares k (leaf k i) (leaf k j) (leaf_below k i a) (leaf_below k j b) (omega arith)),
)
