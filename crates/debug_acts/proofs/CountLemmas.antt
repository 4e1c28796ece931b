-- The smaller one of two numbers.
use Rattle.std.proofs.Common.{◌≡◌, ℕ, ◌<◌, ◌≤◌, ◌⊎◌, inl, inr, refl, arith, le_refl}
use Rattle.std.proofs.lemmas.Bool.{cases_lt, lt-ltb, le-ltb}
use Rattle.debug_acts.specs.Walk.{smaller_of}

pub least_second : (m n : ℕ) → n ≤ m → n ≡ smaller_of m n
least_second m n l = let e = le-ltb m n l in rw e refl

pub least_within : (m n : ℕ) → smaller_of m n ≤ n
least_within m n = step (cases_lt m n)
  where
    step : (m < n) ⊎ (n ≤ m) → smaller_of m n ≤ n
    step (inl h) = let e = lt-ltb m n h in rw e (omega arith)
    step (inr h) = let e = le-ltb m n h in rw e (omega arith)

pub least_first : (m n : ℕ) → smaller_of m n ≤ m
least_first m n = step (cases_lt m n)
  where
    step : (m < n) ⊎ (n ≤ m) → smaller_of m n ≤ m
    step (inl h) = let e = lt-ltb m n h in rw e (omega arith)
    step (inr h) = let e = le-ltb m n h in rw e h

pub least_both : (k m n : ℕ) → k ≤ m → k ≤ n → k ≤ smaller_of m n
least_both k m n a b = step (cases_lt m n)
  where
    step : (m < n) ⊎ (n ≤ m) → k ≤ smaller_of m n
    step (inl h) = let e = lt-ltb m n h in rw e a
    step (inr h) = let e = le-ltb m n h in rw e b

pub least_first_is : (m n : ℕ) → m ≤ n → m ≡ smaller_of m n
least_first_is m n l = let a = least_both m m n (le_refl m) l in let b = least_first m n in omega arith
