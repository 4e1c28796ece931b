-- A test that holds at each number below a bound, computed, and what it says of one number.
use Rattle.std.proofs.lemmas.Bool.{and_parts}
use Rattle.std.proofs.Common.{◌≡◌, ℕ, zero, suc, ◌<◌, Bool, true, ◌&&◌, ◌⊎◌, inl, inr, sym, subst, arith}

-- the test holds at each number below the bound
abbrev pub all_below : ℕ → (ℕ → Bool) → Bool
all_below zero test = true
all_below (suc n) test = test n && all_below n test

at_or_below : (n k : ℕ) → k < suc n → (k ≡ n) ⊎ (k < n)
at_or_below n k h = grind arith

pub all_at : (n : ℕ) (test : ℕ → Bool) → all_below n test ≡ true → (k : ℕ) → k < n → test k ≡ true
all_at zero test h k lt = absurd (omega arith)
all_at (suc n) test h k lt =
    let parts = and_parts (test n) (all_below n test) h in
    elim (at_or_below n k lt) [
      | inl e ↦ subst (λ i. test i ≡ true) (sym e) parts.0
      | inr less ↦ all_at n test parts.1 k less
    ]

-- a test of pairs
pub pairs : (n : ℕ) (test : ℕ → ℕ → Bool) → all_below n (λ a. all_below n (λ b. test a b)) ≡ true → (a b : ℕ) → a < n → b < n → test a b ≡ true
pairs n test h a b la lb = all_at n (λ j. test a j) (all_at n (λ i. all_below n (λ j. test i j)) h a la) b lb
