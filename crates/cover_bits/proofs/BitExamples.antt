-- The examples of the definitions, computed on the row 5 0 2 and on the small problem: c e, a d g, b c f, a d f, b g and d e g.
use Rattle.std.proofs.Common.{◌≡◌, ℕ, List, [], ◌∷◌, refl, lit≤, arith, filter}
use Rattle.std.specs.Int.Count.{ones}
use Rattle.shared_words.specs.Lists.{numbers}
use Rattle.cover_problem.proofs.CoverExamples.{small}
use Rattle.cover_bits.specs.declared.sets.Part.{Part}
use Rattle.cover_bits.specs.Parts.{words_for, in_row, in_parts, in_both, ones_of_both, shared_from, shared_below, to_come}
use Rattle.cover_bits.specs.Bits.{row_at, is_left, in_columns, full_set}
use Rattle.cover_bits.specs.Rule.{TablesFit}

abbrev row : List ℕ
row = 5 ∷ 0 ∷ 2 ∷ []

-- the row has the numbers 0, 2 and 129
numbers_of_row : filter (in_row row) (numbers 192 0) ≡ 0 ∷ 2 ∷ 129 ∷ []
numbers_of_row = refl

-- a walk that has met 0 has still to meet 2 and 129
after_zero : filter (to_come row (record { word = 4; place = 0; first = 0 })) (numbers 192 0) ≡ 2 ∷ 129 ∷ []
after_zero = refl

-- its parts
abbrev parts : List Part
parts = record { word = 5; place = 0 } ∷ record { word = 2; place = 2 } ∷ []

numbers_of_parts : filter (in_parts parts) (numbers 192 0) ≡ 0 ∷ 2 ∷ 129 ∷ []
numbers_of_parts = refl

shares_two : ones_of_both parts (4 ∷ 0 ∷ 2 ∷ []) ≡ 2
unfolding ones
shares_two = refl

-- from the number 1 on the word at place 0 has 2 alone
from_one : shared_from row 1 (record { word = 5; place = 0 }) ≡ 4
from_one = refl

below_two : shared_below row 2 (record { word = 5; place = 0 }) ≡ 1
below_two = refl

-- the columns of the items a to g, a word each
abbrev columns : List ℕ
columns = 10 ∷ 20 ∷ 5 ∷ 42 ∷ 33 ∷ 12 ∷ 50 ∷ []

-- d is in the options 2, 4 and 6
column_of_d : filter (in_row (row_at 1 3 columns)) (numbers 64 0) ≡ 1 ∷ 3 ∷ 5 ∷ []
column_of_d = refl

-- all six options are left at first
all_left : full_set 6 (words_for 6) ≡ record { word = 63; place = 0 } ∷ []
all_left = refl

-- a is in the options 2 and 4, and of a and b the options 2 to 5 have one
in_column_of_a : filter (in_columns 1 columns (1 ∷ [])) (numbers 64 0) ≡ 1 ∷ 3 ∷ []
in_column_of_a = refl

in_columns_of_both : filter (in_columns 1 columns (1 ∷ 2 ∷ [])) (numbers 64 0) ≡ 1 ∷ 2 ∷ 3 ∷ 4 ∷ []
in_columns_of_both = refl

-- once a is covered, 1 3 5 6 are left
after_a : filter (in_parts (record { word = 53; place = 0 } ∷ [])) (numbers 64 0) ≡ 0 ∷ 2 ∷ 4 ∷ 5 ∷ []
after_a = refl

left_after_a : filter (is_left small (1 ∷ [])) (numbers 64 0) ≡ 0 ∷ 2 ∷ 4 ∷ 5 ∷ []
left_after_a = refl

-- and of these d is in the option 6 alone
list_of_d_after_a : filter (in_both (record { word = 53; place = 0 } ∷ []) (row_at 1 3 columns)) (numbers 64 0) ≡ 5 ∷ []
list_of_d_after_a = refl

-- there is room for 149,796 workers, and not for one more
room_for_many : TablesFit small 149796
room_for_many = lit≤ tt

no_room_for_more : TablesFit small 149797 → ⊥
no_room_for_more room = omega arith
