-- Decimal numbers: words of digits, with no zero before another digit.
--
-- Example: `0` and `205` are decimals, `05` and `+5` aren't; `number_within 204` of `205` is None.
-- proofs/NumberExamples.antt computes it.
use Rattle.std.specs.Prelude.{ℕ, ◌+◌, ◌-◌, ◌*◌, ◌==◌, nat_le, List, [], ◌∷◌, Option, Some, None}
use Rattle.std.specs.Prelude.{Bool, true, false, not, ◌&&◌, if◌then◌else◌}
use Rattle.std.specs.List.{list_all}

-- `0` to `9`
abbrev pub is_digit : ℕ → Bool
is_digit b = nat_le 48 b && nat_le b 57

-- a word of one byte, or of more that do not begin with a zero
abbrev pub begins_well : List ℕ → Bool
begins_well [] = false
begins_well (b ∷ []) = true
begins_well (b ∷ c ∷ bs) = not (b == 48)

-- digits, at least one, and no zero before another
abbrev pub is_decimal : List ℕ → Bool
is_decimal word = begins_well word && list_all is_digit word

-- the number that digits stand for, after those of n
abbrev pub value_after : ℕ → List ℕ → ℕ
value_after n [] = n
value_after n (b ∷ bs) = value_after (10 * n + (b - 48)) bs

-- the number that a word is, if it is one and at most the bound
abbrev pub number_within : ℕ → List ℕ → Option ℕ
number_within most word = if is_decimal word && nat_le (value_after 0 word) most then Some (value_after 0 word) else None
