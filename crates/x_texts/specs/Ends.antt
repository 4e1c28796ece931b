-- Where the words of a line end, and what is kept of a visit's line for the next visit.
--
-- Example: in `visit 4 15 1` the first word ends at 5, and the choices at 7, 10 and 12. proofs/WordExamples.antt computes it.
use Rattle.std.specs.Prelude.{ℕ, suc, ◌≡◌, ◌+◌, ◌*◌, ◌<◌, ◌≤◌, ◌++◌, List, [], ◌∷◌, length, take, get_or, map, decimal, codes}
use Rattle.text_lines.specs.Writing.{words_after}

-- where words end that are written one after the other, each after a space, from the place a on
abbrev pub word_ends : ℕ → List (List ℕ) → List ℕ
word_ends a [] = []
word_ends a (word ∷ words) = (a + suc (length word)) ∷ word_ends (a + suc (length word)) words

-- the bytes begin with the words of a visit's line, and the ends with those of its first word and of each of its choices
pub record IsVisitLine (bytes ends path : List ℕ) : Type 0 where
  pub written : take (5 + length (words_after (map decimal path))) bytes ≡ codes "visit" ++ words_after (map decimal path)
  pub ended : take (suc (length path)) ends ≡ 5 ∷ word_ends 5 (map decimal path)

-- and the line's end stands after them
abbrev pub IsClosed : (bytes path : List ℕ) → Type 0
IsClosed bytes path = get_or bytes (5 + length (words_after (map decimal path))) 0 ≡ 10

-- a space and ten digits are the most that a choice takes; the first word and the line's end take six bytes
pub record LineHasRoom (bytes ends path : List ℕ) : Type 0 where
  pub for_bytes : 6 + 11 * length path ≤ length bytes
  pub for_ends : length path < length ends

-- the bytes and ends are those of the line of the first choices, and have room for that of all
pub record HoldsLine (bytes ends path : List ℕ) (count : ℕ) : Type 0 where
  pub within : count ≤ length path
  pub line : IsVisitLine bytes ends (take count path)
  pub closed : IsClosed bytes (take count path)
  pub room : LineHasRoom bytes ends path
