-- What stands at the front of a text of parts: a snapshot's lines up to `end`, or an answer; what they say, or their fault.
--
-- Example: `visits 1`, `steps 20`, `levels 1 1 1`, `end` say these counts; with `levels 1 0` in their place it is a BadAnswer. Of the small
-- problem's run up to the cut 4, whose 20 steps meet no visit, an answer with 21 steps has BadNumbers. proofs/SumExamples.antt computes both.
use Rattle.std.specs.Prelude.{ℕ, ◌-◌, ◌==◌, nat_lt, nat_le, Bool, not, ◌&&◌, ◌||◌, if◌then◌else◌, List, [], ◌∷◌, ◌++◌, length, take, Option, Some, None, Result, Ok, Err, codes, get_or, suc, filter}
use Rattle.std.specs.Str.{bytes_eq}
use Rattle.text_lines.specs.Lines.{words_of, is_newline, is_empty}
use Rattle.text_lines.specs.Numbers.{is_decimal, value_after}
use Rattle.text_lines.specs.Writing.{spaced}
use Rattle.text_lines.specs.Each.{each, ◌>>=◌}
use Rattle.x_snapshot.specs.declared.fault.SnapshotFault.{SnapshotFault}
use Rattle.x_snapshot.specs.declared.fault.SnapshotFault.TheVariants as snapshots
use Rattle.x_snapshot.specs.Snapshot.{SnapshotValue}
use Rattle.x_snapshot.specs.Reader.{first_line, onto_line, only}
use Rattle.x_snapshot.specs.Judged.{snapshot_of}
use Rattle.part_sums.specs.declared.fault.JoinFault.{JoinFault}
use Rattle.part_sums.specs.declared.fault.JoinFault.TheVariants.{NoWhole, BadPart, NotOnRun, BadAnswer, TooLong, Truncated, BadNumbers}
use Rattle.part_sums.specs.Answers.{CountsValue, counts_with, most_digits, has_numbers_of}
use Rattle.part_sums.specs.Parts.{last_state}

-- *a snapshot's lines*

-- a text up to and with the end of its first line that is `end`, where the bytes of a line stand before it; and what stands after that
unfoldable pub end_after : List ℕ → List ℕ → Result (List ℕ × List ℕ) JoinFault
end_after line [] = Err Truncated
end_after line (b ∷ bs) =
    if is_newline b then
    (if bytes_eq line (codes "end") then Ok (b ∷ [], bs) else (end_after [] bs >>= λ s. Ok (onto_line b s)))
    else (end_after (line ++ b ∷ []) bs >>= λ s. Ok (onto_line b s))

-- a text up to and with its first line that is `end`, and what stands after that line
abbrev pub up_to_end : List ℕ → Result (List ℕ × List ℕ) JoinFault
up_to_end text = end_after [] text

-- why a text is no snapshot, as a fault of the whole
abbrev pub whole_from : Result SnapshotValue SnapshotFault → Result SnapshotValue JoinFault
whole_from (Ok v) = Ok v
whole_from (Err f) = Err NoWhole

-- the fault of a part that is no snapshot
abbrev pub part_fault : SnapshotFault → JoinFault
part_fault snapshots.NotOnRun = NotOnRun
part_fault snapshots.OutsideBranch = NotOnRun
part_fault _ = BadPart

-- the same of a part's snapshot
abbrev pub part_from : Result SnapshotValue SnapshotFault → Result SnapshotValue JoinFault
part_from (Ok v) = Ok v
part_from (Err f) = Err (part_fault f)

-- the snapshot at the front of a text, and what stands after it
unfoldable pub whole_in : List ℕ → Result (SnapshotValue × List ℕ) JoinFault
whole_in text = do
  s ← up_to_end text
  v ← whole_from (snapshot_of s.0)
  Ok (v, s.1)

-- the snapshot of a part whose lines after this head stand at the front of a text, and what stands after them
unfoldable pub tail_in : List ℕ → List ℕ → Result (SnapshotValue × List ℕ) JoinFault
tail_in head text = do
  s ← up_to_end text
  w ← part_from (snapshot_of (head ++ s.0))
  Ok (w, s.1)

-- *an answer*

-- a line that was found; what isn't ended is cut off
abbrev pub line_from : Result (List ℕ × List ℕ) SnapshotFault → Result (List ℕ × List ℕ) JoinFault
line_from (Ok s) = Ok s
line_from (Err f) = Err Truncated

-- the words after a key
unfoldable pub words_behind : List ℕ → List (List ℕ) → Result (List (List ℕ)) JoinFault
words_behind key [] = Err BadAnswer
words_behind key (word ∷ words) = if bytes_eq word key then Ok words else Err BadAnswer

-- the words after a key in a line, one space between two
unfoldable pub key_words : List ℕ → List ℕ → Result (List (List ℕ)) JoinFault
key_words key line = if bytes_eq line (spaced (words_of line)) then words_behind key (words_of line) else Err BadAnswer

-- the same in the first line of a text, and what stands after that line
unfoldable pub keyed_words : List ℕ → List ℕ → Result (List (List ℕ) × List ℕ) JoinFault
keyed_words key text = do
  line ← line_from (first_line text)
  words ← key_words key line.0
  Ok (words, line.1)

-- the number of a word
unfoldable pub number_of_word : List ℕ → Result ℕ JoinFault
number_of_word word =
    if is_decimal word then
    (if nat_le (length word) most_digits then Ok (value_after 0 word) else Err TooLong)
    else Err BadAnswer

-- the number of the only word
abbrev pub number_of_only : Option (List ℕ) → Result ℕ JoinFault
number_of_only None = Err BadAnswer
number_of_only (Some word) = number_of_word word

-- numbers with one more
unfoldable pub with_number : List ℕ → List ℕ → Result (List ℕ) JoinFault
with_number numbers word = number_of_word word >>= λ n. Ok (numbers ++ n ∷ [])

-- numbers with those of these words
abbrev pub numbers_after : List ℕ → List (List ℕ) → Result (List ℕ) JoinFault
numbers_after numbers words = each with_number numbers words

-- the last of these numbers, or 0 if there is none
abbrev pub last_number : List ℕ → ℕ
last_number numbers = get_or numbers (length numbers - 1) 0

-- the last level has a state, or level 0 is there alone
abbrev pub are_levels : List ℕ → Bool
are_levels numbers = nat_lt 0 (length numbers) && ((length numbers == 1) || not (last_number numbers == 0))

-- the levels of these numbers: none if level 0 has no state
unfoldable pub levels_from : List ℕ → Result (List ℕ) JoinFault
levels_from numbers =
    if are_levels numbers then (if last_number numbers == 0 then Ok [] else Ok numbers) else Err BadAnswer

-- the number of the first line, and what stands after it
unfoldable pub keyed_number : List ℕ → List ℕ → Result (ℕ × List ℕ) JoinFault
keyed_number key text = do
  line ← keyed_words key text
  number ← number_of_only (only line.0)
  Ok (number, line.1)

-- the levels of the first line, and what stands after it
unfoldable pub levels_in : List ℕ → Result (List ℕ × List ℕ) JoinFault
levels_in text = do
  line ← keyed_words (codes "levels") text
  numbers ← numbers_after [] line.0
  levels ← levels_from numbers
  Ok (levels, line.1)

-- what stands after a line that is the key alone
unfoldable pub past_end_line : List ℕ → Result (List ℕ) JoinFault
past_end_line text = do
  line ← keyed_words (codes "end") text
  if is_empty line.0 then Ok line.1 else Err BadAnswer

-- the counts of an answer, and what stands after it
unfoldable pub answer_in : List ℕ → Result (CountsValue × List ℕ) JoinFault
answer_in text = do
  visits ← keyed_number (codes "visits") text
  steps ← keyed_number (codes "steps") visits.1
  levels ← levels_in steps.1
  rest ← past_end_line levels.1
  Ok (counts_with visits.0 steps.0 levels.0, rest)

-- the same, if they are counts that this part can have
unfoldable pub part_answer_in : SnapshotValue → List ℕ → Result (CountsValue × List ℕ) JoinFault
part_answer_in part text = do
  answer ← answer_in text
  if has_numbers_of part.state (last_state part) answer.0 then Ok answer else Err BadNumbers

-- *lines*

-- the number of the line that begins where a front of a text ends
abbrev pub line_after : List ℕ → ℕ
line_after front = suc (length (filter is_newline front))

-- the number of the line where the rest of a text begins
abbrev pub line_of : List ℕ → List ℕ → ℕ
line_of text rest = line_after (take (length text - length rest) text)
