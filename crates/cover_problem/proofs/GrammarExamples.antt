-- The example of specs/Grammar.antt, computed.
use Rattle.std.proofs.Common.{◌≡◌, [], ◌∷◌, ◌++◌, Ok, codes, refl}
use Rattle.text_lines.specs.Lines.{lines_of}
use Rattle.text_lines.specs.Each.{each}
use Rattle.text_lines.specs.Reading.{numbered_line, plain_line, text_read, words_by_line}
use Rattle.cover_problem.specs.Problem.{ProblemValue}
use Rattle.cover_problem.specs.Validation.{add_name}
use Rattle.cover_problem.specs.Reading.{problem_of, line, words_line, items_line, maybe_line, option_line, add_item, item_of}
use Rattle.cover_problem.specs.Grammar.{word_lines, written}

abbrev two_items : ProblemValue
two_items = record { names = codes "a" ∷ codes "b" ∷ []; primary = 1; options = (1 ∷ 2 ∷ []) ∷ [] }

lines : written two_items ≡ codes "items a" ++ 10 ∷ codes "maybe b" ++ 10 ∷ codes "option a b" ++ 10 ∷ []
unfolding written
lines = refl

words : words_by_line (lines_of (codes "items a # two" ++ 10 ∷ 10 ∷ codes "  maybe b" ++ 13 ∷ 10 ∷ codes "option a b")) ≡ word_lines two_items
words = refl

read : problem_of (codes "items a # two" ++ 10 ∷ 10 ∷ codes "  maybe b" ++ 13 ∷ 10 ∷ codes "option a b") ≡ Ok two_items
unfolding problem_of each text_read numbered_line line plain_line words_line items_line maybe_line option_line add_item item_of add_name
read = refl
