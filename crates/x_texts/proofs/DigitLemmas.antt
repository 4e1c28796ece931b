-- How a choice is written into the room of a line.
use Rattle.std.proofs.Common.{◌≡◌, ℕ, ◌+◌, ◌/◌, ◌%◌, ◌<◌, ◌≤◌, List, [], ◌∷◌, ◌++◌, length, take, set, decimal, refl, sym, ap, ◌∙◌, arith, append_assoc}
use Rattle.std.proofs.lemmas.List.{length-set, take-set-le}
use Rattle.std.proofs.lemmas.Fmt.{decimal_digit, decimal_step}
use Rattle.std.proofs.lemmas.Grind.{take-set_at}

-- the byte behind what is written
pub next_byte : (bytes start : List ℕ) (at n byte : ℕ) → n ≡ at + 1 → at < length bytes → take at bytes ≡ start → take n (set bytes at byte) ≡ start ++ byte ∷ []
next_byte bytes start at n byte is l so_far = take-set_at bytes at n byte is l ∙ ap (λ bs. bs ++ byte ∷ []) so_far

two_bytes : (bytes : List ℕ) (at n a b : ℕ) → n ≡ at + 2 → n ≤ length bytes → take n (set (set bytes at a) (at + 1) b) ≡ take at bytes ++ a ∷ b ∷ []
two_bytes bytes at n a b is l =
    next_byte (set bytes at a) (take at bytes ++ a ∷ []) (at + 1) n b (omega (arith, is)) (omega (arith, is, l, length-set bytes at a))
    (next_byte bytes (take at bytes) at (at + 1) a (omega arith) (omega (arith, is, l)) refl)
    ∙ append_assoc (take at bytes) (a ∷ []) (b ∷ [])

three_bytes : (bytes : List ℕ) (at n a b c : ℕ) → n ≡ at + 3 → n ≤ length bytes → take n (set (set (set bytes at a) (at + 1) b) (at + 2) c) ≡ take at bytes ++ a ∷ b ∷ c ∷ []
three_bytes bytes at n a b c is l =
    next_byte (set (set bytes at a) (at + 1) b) (take at bytes ++ a ∷ b ∷ []) (at + 2) n c (omega (arith, is))
    (omega (arith, is, l, length-set bytes at a, length-set (set bytes at a) (at + 1) b)) (two_bytes bytes at (at + 2) a b refl (omega (arith, is, l)))
    ∙ append_assoc (take at bytes) (a ∷ b ∷ []) (c ∷ [])

-- a choice of one digit: the third byte isn't read
pub one_digit : (bytes : List ℕ) (at n choice first last : ℕ) → choice < 10 → first ≡ 48 + choice % 10 → n ≡ at + 2 → n ≤ length bytes
    → take n (set (set (set bytes at 32) (at + 1) first) (at + 2) last) ≡ take at bytes ++ 32 ∷ decimal choice
one_digit bytes at n choice first last small is end l =
    take-set-le n (set (set bytes at 32) (at + 1) first) (at + 2) last (omega (arith, end)) ∙ two_bytes bytes at n 32 first end l
    ∙ ap (λ d. take at bytes ++ 32 ∷ d ∷ []) (let same : first ≡ 48 + choice = omega (arith, is, small) in same) ∙ ap (λ ds. take at bytes ++ 32 ∷ ds) (sym (decimal_digit choice small))

decimal_two : (n : ℕ) → 10 ≤ n → n < 100 → decimal n ≡ (48 + n / 10) ∷ (48 + n % 10) ∷ []
decimal_two n least most = decimal_step n (omega (arith, least)) (omega (arith, most)) ∙ ap (λ ds. ds ++ (48 + n % 10) ∷ []) (decimal_digit (n / 10) (omega (arith, most)))

-- one of two
pub two_digits : (bytes : List ℕ) (at n choice first last : ℕ) → 10 ≤ choice → choice < 100 → first ≡ 48 + choice / 10 → last ≡ 48 + choice % 10 → n ≡ at + 3 → n ≤ length bytes
    → take n (set (set (set bytes at 32) (at + 1) first) (at + 2) last) ≡ take at bytes ++ 32 ∷ decimal choice
two_digits bytes at n choice first last least most is ones end l =
    three_bytes bytes at n 32 first last end l ∙ (λ j. take at bytes ++ 32 ∷ is j ∷ ones j ∷ []) ∙ ap (λ ds. take at bytes ++ 32 ∷ ds) (sym (decimal_two choice least most))

-- one of three
pub three_digits : (bytes : List ℕ) (at n choice : ℕ) → 100 ≤ choice → choice < 1000 → n ≡ at + 4 → n ≤ length bytes
    → take n (set (set (set (set bytes at 32) (at + 1) (48 + choice / 100)) (at + 2) (48 + choice / 10 % 10)) (at + 3) (48 + choice % 10)) ≡ take at bytes ++ 32 ∷ decimal choice
three_digits bytes at n choice least most end l =
    next_byte (set (set (set bytes at 32) (at + 1) (48 + choice / 100)) (at + 2) (48 + choice / 10 % 10)) (take at bytes ++ 32 ∷ (48 + choice / 100) ∷ (48 + choice / 10 % 10) ∷ []) (at + 3) n (48 + choice % 10)
    (omega (arith, end))
    (omega (arith, end, l, length-set bytes at 32, length-set (set bytes at 32) (at + 1) (48 + choice / 100), length-set (set (set bytes at 32) (at + 1) (48 + choice / 100)) (at + 2) (48 + choice / 10 % 10)))
    (three_bytes bytes at (at + 3) 32 (48 + choice / 100) (48 + choice / 10 % 10) refl (omega (arith, end, l)))
    ∙ append_assoc (take at bytes) (32 ∷ (48 + choice / 100) ∷ (48 + choice / 10 % 10) ∷ []) ((48 + choice % 10) ∷ [])
    ∙ ap (λ ds. take at bytes ++ 32 ∷ ds) (sym digits)
  where
    digits : decimal choice ≡ (48 + choice / 100) ∷ (48 + choice / 10 % 10) ∷ (48 + choice % 10) ∷ []
    digits =
        decimal_step choice (omega (arith, least)) (omega (arith, most)) ∙ ap (λ ds. ds ++ (48 + choice % 10) ∷ []) (decimal_two (choice / 10) (omega (arith, least)) (omega (arith, most)))
        ∙ ap (λ d. (48 + d) ∷ (48 + choice / 10 % 10) ∷ (48 + choice % 10) ∷ []) (let same : choice / 10 / 10 ≡ choice / 100 = omega arith in same)
