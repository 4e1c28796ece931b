-- The key of a set of covered items: a row of bits, one for each item.
use Rattle.std.specs.Prelude.{ℕ, ◌≡◌, ◌<◌, ◌+◌, List, length}
use Rattle.shared_words.specs.Lists.{has}
use Rattle.cover_bits.specs.Parts.{words_for, in_row}

-- the row has a bit for each of n items: bit k is set if item k + 1 is covered
pub record IsKeyOf (n : ℕ) (c key : List ℕ) : Type 0 where
  pub long : length key ≡ words_for n
  pub bits : (k : ℕ) → k < n → in_row key k ≡ has c (k + 1)
