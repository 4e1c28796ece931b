-- The first byte that passes a test, as a search for it answers.
use Rattle.std.proofs.Common.{◌≡◌, ℕ, Bool, List, length, Option, None, Some, unwrap_or, arith, sym}
use Rattle.std.specs.List.{position_or_len}
use Rattle.std.proofs.lemmas.Bool.{false_from_ne_true}
use Rattle.std.proofs.lemmas.List.Sums.{position_or_len_is}
use Rattle.memchr.specs.Find.{IsFirstByte}

-- its place, or the length where there is none
pub first_place : (test : ℕ → Bool) (xs : List ℕ) (found : Option ℕ) → IsFirstByte test xs found → unwrap_or found (length xs) ≡ position_or_len test xs
first_place test xs None none = sym (position_or_len_is test xs (length xs) 0 (omega arith) (λ k l. false_from_ne_true _ (none k (omega arith) l)) (λ l. absurd (omega arith)))
first_place test xs (Some k) found = let high = found.0.high in sym (position_or_len_is test xs k 0 (omega arith) (λ j l. false_from_ne_true _ (found.0.before j (omega arith) l)) (λ l. found.1))
