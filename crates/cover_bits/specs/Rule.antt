-- How many words tables of bits may have, in numerals: the constant of the code is proved to keep to it.
--
-- Example: the small problem has seven items and six options. A set of its options takes one word, so there is room for 149,796
-- workers, and not for one more.
-- proofs/BitExamples.antt computes it.
use Rattle.std.specs.Prelude.{ℕ, ◌*◌, ◌≤◌, length}
use Rattle.cover_problem.specs.Problem.{ProblemValue}
use Rattle.cover_bits.specs.Parts.{words_for}

-- the most words that the columns of all workers' tables have together
abbrev pub most_words : ℕ
most_words = 1048576

-- the columns of so many workers' tables stay within the bound
abbrev pub TablesFit : ProblemValue → ℕ → Type 0
TablesFit p workers = length p.names * words_for (length p.options) * workers ≤ most_words
