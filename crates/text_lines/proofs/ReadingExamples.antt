-- The example of specs/Reading.antt, computed.
use Rattle.std.proofs.Common.{◌≡◌, ℕ, ◌+◌, List, [], ◌∷◌, Result, Ok, Err, codes, refl, bytes_eq, ◌||◌, if◌then◌else◌, ◌==◌}
use Rattle.text_lines.specs.Lines.{lines_of}
use Rattle.text_lines.specs.Each.{each}
use Rattle.text_lines.specs.Reading.{plain_line, numbered_line, text_read}

-- a line of one word, `a` or `b`, counts one; 0 is the fault of another line, and 1 that of a text without words
abbrev count : ℕ → List (List ℕ) → Result ℕ ℕ
count n [] = Ok n
count n (word ∷ []) = if bytes_eq word (codes "a") || bytes_eq word (codes "b") then Ok (n + 1) else Err 0
count n (word ∷ more ∷ words) = Err 0

abbrev some : ℕ → Result ℕ ℕ
some n = if n == 0 then Err 1 else Ok n

abbrev counted : List ℕ → Result ℕ (ℕ × ℕ)
counted text = text_read (plain_line 0 count) 0 some (lines_of text)

two_words : counted (codes "a\nb # c") ≡ Ok 2
unfolding text_read each numbered_line plain_line
two_words = refl

second_refused : counted (codes "a\nc") ≡ Err (0, 2)
unfolding text_read each numbered_line plain_line
second_refused = refl

none_at_all : counted [] ≡ Err (1, 0)
unfolding text_read each numbered_line plain_line
none_at_all = refl
