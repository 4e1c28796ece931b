-- The elements of a list that pass a test: one more, one at a place, and others put in its place.
use Rattle.std.proofs.Common.{◌≡◌, ℕ, zero, suc, ◌+◌, ◌<◌, Bool, true, false, cond, List, [], ◌∷◌, ◌++◌, length, filter, take, drop}
use Rattle.std.proofs.Common.{get_or, refl, sym, ap, ◌∙◌, arith, append-nil}
use Rattle.std.specs.Prelude.{count_by}
use Rattle.std.proofs.Math.ListN.{set}
use Rattle.std.proofs.lemmas.List.Elements.{filter-append}
use Rattle.std.proofs.lemmas.List.Sums.{sum_by-cons}

-- a list whose element at a place is another
pub set_parts : {X : Type 0} (xs : List X) (i : ℕ) (y : X) → i < length xs → set xs i y ≡ take i xs ++ (y ∷ []) ++ drop (suc i) xs
set_parts [] i y l = absurd (omega arith)
set_parts (x ∷ xs) zero y l = refl
set_parts {X} (x ∷ xs) (suc i) y l = ap (λ (ys : List X). x ∷ ys) (set_parts xs i y (omega arith))

module _ {X : Type 0} (test : X → Bool) where
  -- ---- one more

  pub kept : (x : X) (xs : List X) → test x ≡ true → filter test (x ∷ xs) ≡ x ∷ filter test xs
  kept x xs e = ap (λ (b : Bool). cond b (x ∷ filter test xs) (filter test xs)) e

  pub left_out : (x : X) (xs : List X) → test x ≡ false → filter test (x ∷ xs) ≡ filter test xs
  left_out x xs e = ap (λ (b : Bool). cond b (x ∷ filter test xs) (filter test xs)) e

  -- where none passes, the first doesn't, and none of the rest
  pub count_none : (x : X) (xs : List X) → count_by test (x ∷ xs) ≡ 0 → (test x ≡ false) × (count_by test xs ≡ 0)
  count_none x xs n = by (test x) refl (sym (sum_by-cons (λ (y : X). cond {A = ℕ} (test y) 1 0) x xs) ∙ n)
    where
      by : (b : Bool) → test x ≡ b → cond {A = ℕ} (test x) 1 0 + count_by test xs ≡ 0 → (test x ≡ false) × (count_by test xs ≡ 0)
      by true e m = let c : cond {A = ℕ} (test x) 1 0 ≡ 1 = ap {B = ℕ} (λ (b : Bool). cond b 1 0) e in absurd (omega arith)
      by false e m = let c : cond {A = ℕ} (test x) 1 0 ≡ 0 = ap {B = ℕ} (λ (b : Bool). cond b 1 0) e in (e, omega arith)

  -- ---- one at a place

  -- where none passes, this one doesn't
  pub none_at : (xs : List X) (i : ℕ) (d : X) → filter test xs ≡ [] → i < length xs → test (get_or xs i d) ≡ false
  none_at [] i d n l = absurd (omega arith)
  none_at (x ∷ xs) i d n l = by (test x) refl i n l (λ j. none_at xs j d)
    where
      by : (b : Bool) → test x ≡ b → (i : ℕ) → cond b (x ∷ filter test xs) (filter test xs) ≡ [] → i < suc (length xs)
          → ((j : ℕ) → filter test xs ≡ [] → j < length xs → test (get_or xs j d) ≡ false) → test (get_or (x ∷ xs) i d) ≡ false
      by true e i n l r = absurd (cc)
      by false e zero n l r = e
      by false e (suc i) n l r = r i n (omega arith)

  -- one that doesn't pass is left out
  without : (xs : List X) (i : ℕ) (d : X) → i < length xs → test (get_or xs i d) ≡ false
      → filter test xs ≡ filter test (take i xs) ++ filter test (drop (suc i) xs)
  without [] i d l e = absurd (omega arith)
  without (x ∷ xs) zero d l e = left_out x xs e
  without (x ∷ xs) (suc i) d l e = by (test x) (without xs i d (omega arith) e)
    where
      by : (b : Bool) → filter test xs ≡ filter test (take i xs) ++ filter test (drop (suc i) xs)
          → cond b (x ∷ filter test xs) (filter test xs)
          ≡ cond b (x ∷ filter test (take i xs)) (filter test (take i xs)) ++ filter test (drop (suc i) xs)
      by true r = ap (λ (ys : List X). x ∷ ys) r
      by false r = r

  -- others that don't pass come into its place
  pub same_put : (xs ys : List X) (i : ℕ) (d : X) → i < length xs → test (get_or xs i d) ≡ false → filter test ys ≡ []
      → filter test (take i xs ++ ys ++ drop (suc i) xs) ≡ filter test xs
  same_put xs ys i d l e n =
      filter-append test (take i xs ++ ys) (drop (suc i) xs)
      ∙ ap (λ (zs : List X). zs ++ filter test (drop (suc i) xs))
      (filter-append test (take i xs) ys ∙ ap (λ (zs : List X). filter test (take i xs) ++ zs) n ∙ append-nil (filter test (take i xs)))
      ∙ sym (without xs i d l e)

  pub same_set : (xs : List X) (i : ℕ) (y d : X) → i < length xs → test (get_or xs i d) ≡ false → test y ≡ false
      → filter test (set xs i y) ≡ filter test xs
  same_set xs i y d l e f = ap (filter test) (set_parts xs i y l) ∙ same_put xs (y ∷ []) i d l e (left_out y [] f)
