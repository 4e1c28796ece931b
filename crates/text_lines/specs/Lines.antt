-- The lines of a text and the words of a line, where a text is a list of bytes.
-- Texts of this project: a line ends at a newline, `#` begins a comment, spaces and tabs part words.
--
-- Example: the text `ab c#d`, newline, tab, `e` has the lines `ab c#d` and tab, `e`; outside comments they have the
-- words `ab`, `c` and `e`. proofs/LineExamples.antt computes it.
--
--     lines_of text        the lines, in order, without their ends
--     without_return line  the line without one carriage return at its end
--     outside_comment line what stands before the comment
--     is_plain b           a byte that may stand outside a comment
--     words_of said        the words, in order
use Rattle.std.specs.Prelude.{ℕ, ◌-◌, ◌==◌, nat_le, List, [], ◌∷◌, length, take, slice_index, filter}
use Rattle.std.specs.Prelude.{Bool, not, true, false, ◌||◌, ◌&&◌, if◌then◌else◌}
use Rattle.std.specs.List.{onto_first, before_first, slice_split, list_all}

-- a newline
abbrev pub is_newline : ℕ → Bool
is_newline b = b == 10

-- bytes without a newline
abbrev pub is_one_line : List ℕ → Bool
is_one_line bs = list_all (λ b. not (is_newline b)) bs

-- the lines, each without its end: a newline, or the end of the text
abbrev pub lines_of : List ℕ → List (List ℕ)
lines_of [] = []
lines_of (b ∷ bs) = if is_newline b then [] ∷ lines_of bs else onto_first b (lines_of bs)

-- a line without one carriage return at its end
abbrev pub without_return : List ℕ → List ℕ
without_return line = if slice_index line (length line - 1) == 13 then take (length line - 1) line else line

-- the sign that begins a comment
abbrev pub begins_comment : ℕ → Bool
begins_comment b = b == 35

-- what stands before the comment
abbrev pub outside_comment : List ℕ → List ℕ
outside_comment line = before_first begins_comment (without_return line)

-- a tab, or a printable byte
abbrev pub is_plain : ℕ → Bool
is_plain b = (b == 9) || (nat_le 32 b && nat_le b 126)

-- a space or a tab
abbrev pub is_blank : ℕ → Bool
is_blank b = (b == 32) || (b == 9)

-- a list that has an element
abbrev pub has_bytes : List ℕ → Bool
has_bytes [] = false
has_bytes (b ∷ bs) = true

-- the words, parted by spaces and tabs
abbrev pub words_of : List ℕ → List (List ℕ)
words_of said = filter has_bytes (slice_split is_blank said)

-- no words at all
abbrev pub is_empty : List (List ℕ) → Bool
is_empty [] = true
is_empty (word ∷ words) = false
