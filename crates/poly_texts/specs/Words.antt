-- The words of a puzzle text beside those of cells: names of pieces, and sizes.
--
-- Example: `A` is one name, and `AB` are two. `A+BC` has A before the `+`, and B and C after it. `0` and `07` are no sizes.
-- proofs/WordExamples.antt computes it.
use Rattle.std.specs.Prelude.{ℕ, ◌+◌, ◌==◌, nat_lt, length, take, drop, nat_le, Bool, not, ◌&&◌, ◌||◌, List, Option, Some, None, codes, if◌then◌else◌}
use Rattle.std.specs.List.{list_all, position_or_len}
use Rattle.std.specs.Str.{bytes_eq}
use Rattle.text_lines.specs.Numbers.{is_decimal, value_after}
use Rattle.poly_texts.specs.Limits.{most_size}
use Rattle.poly_texts.specs.declared.usage.Usage.{Usage}
use Rattle.poly_texts.specs.Usages.{are_so_many}

-- a letter or a digit
abbrev pub is_name : ℕ → Bool
is_name b = (nat_le 48 b && nat_le b 57) || (nat_le 65 b && nat_le b 90) || (nat_le 97 b && nat_le b 122)

-- the symbols that a word is: letters and digits, as many as the line may have
abbrev pub word_names : Usage → List ℕ → Option (List ℕ)
word_names usage word = if list_all is_name word && are_so_many usage (length word) then Some word else None

-- how many symbols stand before the first `+`
unfoldable pub plus_at : List ℕ → ℕ
plus_at word = position_or_len (λ b. b == 43) word

-- there is a `+`
abbrev pub has_plus : List ℕ → Bool
has_plus word = nat_lt (plus_at word) (length word)

-- the symbols before it
abbrev pub before_plus : List ℕ → List ℕ
before_plus word = take (plus_at word) word

-- the symbols after it
abbrev pub after_plus : List ℕ → List ℕ
after_plus word = drop (plus_at word + 1) word

-- a decimal number from 1 on
abbrev pub is_size : List ℕ → Bool
is_size word = is_decimal word && not (bytes_eq word (codes "0"))

-- the number that such a word is
abbrev pub size_from : List ℕ → ℕ
size_from word = value_after 0 word

-- three decimal numbers from 1 on
abbrev pub are_sizes : List ℕ → List ℕ → List ℕ → Bool
are_sizes a b c = is_size a && (is_size b && is_size c)

-- three numbers that are at most the greatest size of a box
abbrev pub are_small : List ℕ → List ℕ → List ℕ → Bool
are_small a b c = nat_le (size_from a) most_size && (nat_le (size_from b) most_size && nat_le (size_from c) most_size)
