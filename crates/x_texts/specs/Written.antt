-- Visits as lines that say them.
--
-- Example: the text of the lines `visit 4 5 1` and `visit` says the visits 4 5 1 and none. proofs/WrittenExamples.antt computes it.
use Rattle.std.specs.Prelude.{ℕ, ◌≡◌, ◌<◌, ◌^◌, List, map, drop}
use Rattle.std.specs.List.{All}
use Rattle.text_lines.specs.Lines.{lines_of}
use Rattle.text_lines.specs.Numbers.{value_after}
use Rattle.text_lines.specs.Writing.{text_of, words_of_line}
use Rattle.x_texts.specs.Words.{visit_words}

-- the choices that the words of a line say after the first word
abbrev pub choices_said : List (List ℕ) → List ℕ
choices_said words = map (value_after 0) (drop 1 words)

-- the visits that lines say
unfoldable pub visits_said : List ℕ → List (List ℕ)
visits_said text = map choices_said (map words_of_line (lines_of text))

-- the text is that of the visits that it says, whose choices are numbers of 32 bits
pub record AreVisitLines (text : List ℕ) : Type 0 where
  pub written : text ≡ text_of (map visit_words (visits_said text))
  pub small : All (All (λ choice. choice < 2 ^ 32)) (visits_said text)
