-- Which texts are texts of a problem, and which of them is written.
--
-- Example: the problem with the items a and b, of which a has to be covered, and the option a b is written as the lines
-- `items a`, `maybe b` and `option a b`; with a comment, blanks or empty lines added it is a text of the same problem.
-- proofs/GrammarExamples.antt computes it.
use Rattle.std.specs.Prelude.{ℕ, true, ◌≡◌, List, [], ◌∷◌, ◌++◌, take, drop, map, codes}
use Rattle.text_lines.specs.Lines.{lines_of}
use Rattle.text_lines.specs.Writing.{text_of, are_plain}
use Rattle.text_lines.specs.Reading.{words_by_line}
use Rattle.cover_problem.specs.Problem.{ProblemValue, IsProblem, name_at}

-- the `maybe` line, where there are items that may be covered
abbrev pub maybe_words : List (List ℕ) → List (List (List ℕ))
maybe_words [] = []
maybe_words (name ∷ names) = (codes "maybe" ∷ name ∷ names) ∷ []

-- the line of an option, over items with these names
abbrev pub option_words : List (List ℕ) → List ℕ → List (List ℕ)
option_words names option = codes "option" ∷ map (name_at names) option

-- a problem's lines, each as its words
abbrev pub word_lines : ProblemValue → List (List (List ℕ))
word_lines p = (codes "items" ∷ take p.primary p.names) ∷ maybe_words (drop p.primary p.names) ++ map (option_words p.names) p.options

-- comments, blanks, empty lines and line ends aside, the text is the lines of a problem
pub record IsCoverText (text : List ℕ) (p : ProblemValue) : Type 0 where
  pub plain : are_plain (lines_of text) ≡ true
  pub says : words_by_line (lines_of text) ≡ word_lines p
  pub problem : IsProblem p

-- the text that is written
unfoldable pub written : ProblemValue → List ℕ
written p = text_of (word_lines p)
