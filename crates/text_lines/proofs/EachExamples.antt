-- The example of specs/Each.antt, computed.
use Rattle.std.proofs.Common.{◌≡◌, ℕ, ◌+◌, ◌==◌, [], ◌∷◌, if◌then◌else◌, Result, Ok, Err, refl}
use Rattle.text_lines.specs.Each.{each}

-- adds a number, and refuses 0 with the sum so far
abbrev add : ℕ → ℕ → Result ℕ ℕ
add sum n = if n == 0 then Err sum else Ok (sum + n)

all_added : each add 0 (1 ∷ 2 ∷ 3 ∷ []) ≡ Ok 6
unfolding each
all_added = refl

first_refused : each add 0 (1 ∷ 0 ∷ 2 ∷ 0 ∷ []) ≡ Err 1
unfolding each
first_refused = refl
