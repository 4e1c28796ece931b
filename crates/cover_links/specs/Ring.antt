-- Which number stands after which in a ring: the numbers that pass a test, rising, closed by the number 0.
use Rattle.std.specs.Prelude.{◌≡◌, ℕ, ◌<◌, ◌≤◌, ◌==◌, Bool, true, not, ◌&&◌, ◌⊎◌}

-- y is the first number after x that passes, or 0 if none does
abbrev pub IsNext : (ℕ → Bool) → ℕ → ℕ → Type 0
IsNext t x y = ((t y ≡ true) × (x < y) × ((z : ℕ) → t z ≡ true → x < z → y ≤ z)) ⊎ ((y ≡ 0) × ((z : ℕ) → t z ≡ true → z ≤ x))

-- x is in the ring, and y is the one after it
pub record Follows (t : ℕ → Bool) (x y : ℕ) : Type 0 where
  pub from : (x ≡ 0) ⊎ (t x ≡ true)
  pub to : IsNext t x y

-- the links lead from each to the next and back, where the number x stands at the entry `place x`
abbrev pub IsRing : (ℕ → Bool) → (ℕ → ℕ) → (ℕ → ℕ) → (ℕ → ℕ) → Type 0
IsRing t place next prev = (x y : ℕ) → Follows t x y → (next (place x) ≡ place y) × (prev (place y) ≡ place x)

-- the test, but for q
abbrev pub but_for : (ℕ → Bool) → ℕ → ℕ → Bool
but_for t q k = t k && not (k == q)
