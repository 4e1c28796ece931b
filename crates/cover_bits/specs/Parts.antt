-- Sets of numbers as words: rows of all words, and the parts of such a row that are not 0.
-- TAOCP volume 4A, section 7.1.3. The bit i of the word at place v stands for the number 64 v + i.
--
-- Example: the row 5 0 2 has the numbers 0, 2 and 129; its parts are 5 at place 0 and 2 at place 2. They share two numbers with the row
-- 4 0 2. A walk over the row that has met 0 is at the word 4 of place 0, and has still to meet 2 and 129. proofs/BitExamples.antt
-- computes it.
use Rattle.std.specs.Prelude.{ℕ, ◌<◌, ◌≤◌, ◌≡◌, ◌+◌, ◌-◌, ◌/◌, ◌%◌, ◌*◌, ◌==◌, ◌^◌, Bool, true, false, not, cond, ◌&&◌, nat_lt, suc, List, [], ◌∷◌, sum_by, slice_index_or, bit_and, count_ones}
use Rattle.std.specs.Int.{bit_at}
use Rattle.std.specs.List.{list_any}
use Rattle.cover_bits.specs.declared.sets.Part.{Part}
use Rattle.cover_bits.specs.declared.walk.Rest.{Rest}

-- how many words a row takes for n numbers
abbrev pub words_for : ℕ → ℕ
words_for n = (n + 63) / 64

-- whether a word has a bit
abbrev pub in_word : ℕ → ℕ → Bool
in_word word i = bit_at word i == 1

-- whether a row has a number
abbrev pub in_row : List ℕ → ℕ → Bool
in_row row k = in_word (slice_index_or row (k / 64) 0) (k % 64)

-- whether a part has it
abbrev pub in_part : ℕ → Part → Bool
in_part k part = (part.place == k / 64) && in_word part.word (k % 64)

-- whether one of the parts has it
abbrev pub in_parts : List Part → ℕ → Bool
in_parts parts k = list_any (in_part k) parts

-- whether parts and a row have it
abbrev pub in_both : List Part → List ℕ → ℕ → Bool
in_both parts row k = in_parts parts k && in_row row k

-- the place k among the columns of words words is that of an option in the column of one of these items
abbrev pub is_noted : ℕ → ℕ → List ℕ → ℕ → Bool
is_noted words place option k = list_any (λ i. k == (i - 1) * (64 * words) + place) option

-- words with places that rise, the first at least n, all of them below the row's length w
abbrev pub ArePlaced : ℕ → ℕ → List Part → Type 0
ArePlaced n w [] = Unit {0}
ArePlaced n w (part ∷ parts) = (n ≤ part.place) × (part.place < w) × (part.word < 2 ^ 64) × ArePlaced (suc part.place) w parts

-- the word that a part shares with a row
abbrev pub shared : List ℕ → Part → ℕ
shared row part = bit_and part.word (slice_index_or row part.place 0)

-- how many ones the words have that the parts share with a row
abbrev pub ones_of_both : List Part → List ℕ → ℕ
ones_of_both parts row = sum_by (λ part. count_ones (shared row part)) parts

-- whether a part has a number at all
abbrev pub is_some_part : Part → Bool
is_some_part part = not (part.word == 0)

-- the bits that stand, in the word at a place, for numbers from `start` on
abbrev pub mask_from : ℕ → ℕ → ℕ
mask_from start place = cond (nat_lt (start / 64) place) (2 ^ 64 - 1) (cond (place == start / 64) (2 ^ 64 - 2 ^ (start % 64)) 0)

-- the same word as `shared`, without the numbers below one
abbrev pub shared_from : List ℕ → ℕ → Part → ℕ
shared_from row start part =
    cond (nat_lt (start / 64) part.place) (shared row part)
    (cond (part.place == start / 64) (bit_and (shared row part) (2 ^ 64 - 2 ^ (start % 64))) 0)

-- the same word as `shared`, without the numbers from one on
abbrev pub shared_below : List ℕ → ℕ → Part → ℕ
shared_below row end part =
    cond (nat_lt part.place (end / 64)) (shared row part)
    (cond (part.place == end / 64) (bit_and (shared row part) (2 ^ (end % 64) - 1)) 0)

-- k is the first number from `start` on that passes
pub record IsFirstFrom (test : ℕ → Bool) (start k : ℕ) : Type 0 where
  pub passes : test k ≡ true
  pub from : start ≤ k
  pub least : (j : ℕ) → start ≤ j → test j ≡ true → k ≤ j

-- none from `start` on passes
abbrev pub NoneFrom : (ℕ → Bool) → ℕ → Type 0
NoneFrom test start = (j : ℕ) → start ≤ j → test j ≡ false

-- k is the last number below `end` that passes
pub record IsLastBelow (test : ℕ → Bool) (end k : ℕ) : Type 0 where
  pub passes : test k ≡ true
  pub below : k < end
  pub greatest : (j : ℕ) → j < end → test j ≡ true → j ≤ k

-- none below `end` passes
abbrev pub NoneBelow : (ℕ → Bool) → ℕ → Type 0
NoneBelow test end = (j : ℕ) → j < end → test j ≡ false

-- whether a walk over a row has still to meet a number: in the word that it is at, or in a later one
abbrev pub to_come : List ℕ → Rest → ℕ → Bool
to_come row rest k = cond (rest.place == k / 64) (in_word rest.word (k % 64)) (nat_lt rest.place (k / 64) && in_row row k)
