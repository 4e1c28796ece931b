-- How lines of words are written: one space between two words, and a newline after each line.
--
-- Example: the lines `a b` and `c` are the bytes 97 32 98 10 99 10. proofs/WritingExamples.antt computes it.
use Rattle.std.specs.Prelude.{ℕ, ◌==◌, nat_le, List, [], ◌∷◌, ◌++◌, Bool, not, ◌&&◌, flat_map}
use Rattle.std.specs.List.{list_all, join_with_byte}
use Rattle.text_lines.specs.Lines.{has_bytes, outside_comment, words_of, is_plain}

-- a printable byte that begins no comment
abbrev pub is_word_byte : ℕ → Bool
is_word_byte b = nat_le 33 b && nat_le b 126 && not (b == 35)

-- one of them at least, and nothing else
abbrev pub is_word : List ℕ → Bool
is_word word = has_bytes word && list_all is_word_byte word

-- lines of nothing but words
abbrev pub are_words : List (List (List ℕ)) → Bool
are_words lines = list_all (list_all is_word) lines

-- the words, one space between two
abbrev pub spaced : List (List ℕ) → List ℕ
spaced words = join_with_byte 32 words

-- each word after a space
abbrev pub words_after : List (List ℕ) → List ℕ
words_after words = flat_map (λ word. 32 ∷ word) words

-- a line of these words, and its end
abbrev pub line_text : List (List ℕ) → List ℕ
line_text words = spaced words ++ 10 ∷ []

-- the lines, one after the other
abbrev pub text_of : List (List (List ℕ)) → List ℕ
text_of lines = flat_map line_text lines

-- the words that a line says
abbrev pub words_of_line : List ℕ → List (List ℕ)
words_of_line line = words_of (outside_comment line)

-- each line has plain bytes alone outside its comment
abbrev pub are_plain : List (List ℕ) → Bool
are_plain lines = list_all (λ line. list_all is_plain (outside_comment line)) lines
