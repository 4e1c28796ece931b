-- Words on lists, most of them of numbers.
use Rattle.std.specs.Prelude.{ℕ, suc, zero, ◌+◌, ◌-◌, ◌≤◌, ◌≡◌, ◌==◌, nat_lt, Bool, true, not, ◌&&◌, cond, Option, Some, None, unwrap_or, List, [], ◌∷◌, ◌++◌, length}
use Rattle.std.specs.Prelude.{find}
use Rattle.std.specs.List.{list_any}

-- whether x is in the list
abbrev pub has : List ℕ → ℕ → Bool
has xs x = list_any (λ y. y == x) xs

-- whether no number comes twice
abbrev pub are_distinct : List ℕ → Bool
are_distinct [] = true
are_distinct (x ∷ xs) = not (has xs x) && are_distinct xs

-- n numbers, from k on
abbrev pub numbers : ℕ → ℕ → List ℕ
numbers zero k = []
numbers (suc n) k = k ∷ numbers n (suc k)

-- the numbers above k, up to n
abbrev pub numbers_above : ℕ → ℕ → List ℕ
numbers_above k n = numbers (n - k) (k + 1)

-- each is above the one before it, and the first is at least n
abbrev pub RisesFrom : ℕ → List ℕ → Type 0
RisesFrom n [] = Unit {0}
RisesFrom n (x ∷ xs) = (n ≤ x) × RisesFrom (suc x) xs

-- the first member above a number; in a rising list, the least of those
abbrev pub above : ℕ → List ℕ → Option ℕ
above n xs = find (λ k. nat_lt n k) xs

-- the greatest member below a number, of a rising list
abbrev pub below : ℕ → List ℕ → Option ℕ
below n [] = None
below n (x ∷ xs) = cond (nat_lt x n) (Some (unwrap_or (below n xs) x)) None

-- the last member
abbrev pub last_of : List ℕ → Option ℕ
last_of [] = None
last_of (x ∷ xs) = Some (unwrap_or (last_of xs) x)

-- the new list is the old one without its last, so many
abbrev pub LosesLast : {A : Type 0} → List A → List A → ℕ → Type 0
LosesLast {A} old new count = (last : List A) × (old ≡ new ++ last) × (length last ≡ count)
