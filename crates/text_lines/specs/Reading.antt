-- What a text says that is read line by line: what its lines say together, or the first fault and the number of its line.
--
-- Four things tell a reader: `line`, what a line adds to what the lines before it say; `nothing`, what no lines say;
-- `whole`, what is made of all that the lines say; and its faults. Most readers go by the words of a line (`plain_line`).
--
-- Example: lines of one word each, `a` or `b`, which are counted, and of which one at least is wanted: the text `a`, `b # c`
-- says 2; `a`, `c` has a fault in line 2; and a text of no lines has one in line 0. proofs/ReadingExamples.antt computes it.
use Rattle.std.specs.Prelude.{ℕ, ◌+◌, ◌<◌, ◌≡◌, ◌↔◌, true, List, ◌∷◌, ◌++◌, length, map, filter, not, Result, Ok, Err, if◌then◌else◌}
use Rattle.std.specs.List.{list_all}
use Rattle.text_lines.specs.Lines.{outside_comment, words_of, is_plain, is_empty}
use Rattle.text_lines.specs.Writing.{words_of_line, are_plain}
use Rattle.text_lines.specs.Each.{each, ◌>>=◌}

-- *a line*

-- a line by its words: a byte that isn't plain may stand in its comment alone, and is the fault `bad` elsewhere
unfoldable pub plain_line : {S F : Type 0} → F → (S → List (List ℕ) → Result S F) → S → List ℕ → Result S F
plain_line bad words_line s bytes =
    if list_all is_plain (outside_comment bytes) then words_line s (words_of (outside_comment bytes)) else Err bad

-- the words of each line that has words
abbrev pub words_by_line : List (List ℕ) → List (List (List ℕ))
words_by_line lines = filter (λ words. not (is_empty words)) (map words_of_line lines)

-- *the lines*

-- what is said so far, with the number of the next line; or a fault, with the number of its line
abbrev pub at_line : {S F : Type 0} → ℕ → Result S F → Result (S × ℕ) (F × ℕ)
at_line n (Ok s) = Ok (s, n + 1)
at_line n (Err f) = Err (f, n)

-- a line, where what is said so far comes with the line's number
unfoldable pub numbered_line : {S F : Type 0} → (S → List ℕ → Result S F) → S × ℕ → List ℕ → Result (S × ℕ) (F × ℕ)
numbered_line line s bytes = at_line s.1 (line s.0 bytes)

-- lines, numbered from 1, where `nothing` is said before them
abbrev pub lines_read : {S F : Type 0} → (S → List ℕ → Result S F) → S → List (List ℕ) → Result (S × ℕ) (F × ℕ)
lines_read line nothing lines = each (numbered_line line) (nothing, 1) lines

-- *the whole text*

-- a fault of the whole text has the line number 0
abbrev pub at_end : {P F : Type 0} → Result P F → Result P (F × ℕ)
at_end (Ok p) = Ok p
at_end (Err f) = Err (f, 0)

-- what the text of these lines says; or its first fault, and the number of its line, which is 0 for a fault of the whole text
unfoldable pub text_read : {S P F : Type 0} → (S → List ℕ → Result S F) → S → (S → Result P F) → List (List ℕ) → Result P (F × ℕ)
text_read line nothing whole lines = lines_read line nothing lines >>= λ read. at_end (whole read.0)

-- *which fault is the first*

-- after the lines before it, which say s, the line numbered n has the fault f
pub record IsFirst {S F : Type 0} (line : S → List ℕ → Result S F) (nothing : S)
    (front : List (List ℕ)) (bytes : List ℕ) (s : S) (f : F) (n : ℕ) : Type 0 where
  pub number : n ≡ length front + 1
  pub read : lines_read line nothing front ≡ Ok (s, n)
  pub fault : line s bytes ≡ Err f

-- the first line with a fault has the number n and the fault f
abbrev pub IsFirstFault : {S F : Type 0} → (S → List ℕ → Result S F) → S → List (List ℕ) → F → ℕ → Type 0
IsFirstFault {S} line nothing lines f n = (front : List (List ℕ)) × (bytes : List ℕ) × (rest : List (List ℕ)) × (s : S)
    × (lines ≡ front ++ bytes ∷ rest) × IsFirst line nothing front bytes s f n

-- no line has a fault, and the whole has the fault f
abbrev pub IsFaultOfWhole : {S P F : Type 0} → (S → List ℕ → Result S F) → S → (S → Result P F) → List (List ℕ) → F → Type 0
IsFaultOfWhole {S} line nothing whole lines f = (s : S) × (n : ℕ) × (lines_read line nothing lines ≡ Ok (s, n)) × (whole s ≡ Err f)

-- *the laws*

-- a fault with a line's number is that of the first line with a fault
abbrev pub FaultIsFirst : {S P F : Type 0} → (S → List ℕ → Result S F) → S → (S → Result P F) → Type 0
FaultIsFirst {S} {P} {F} line nothing whole = (lines : List (List ℕ)) (f : F) (n : ℕ) → 0 < n →
    ((text_read line nothing whole lines ≡ Err (f, n)) ↔ IsFirstFault line nothing lines f n)

-- a fault with the number 0 is that of the whole text
abbrev pub FaultIsOfWhole : {S P F : Type 0} → (S → List ℕ → Result S F) → S → (S → Result P F) → Type 0
FaultIsOfWhole {S} {P} {F} line nothing whole = (lines : List (List ℕ)) (f : F) →
    ((text_read line nothing whole lines ≡ Err (f, 0)) ↔ IsFaultOfWhole line nothing whole lines f)

-- lines say what their words say, where they are plain
abbrev pub SaysItsWords : {S F : Type 0} → F → (S → List (List ℕ) → Result S F) → Type 0
SaysItsWords {S} bad words_line = (lines : List (List ℕ)) (s t : S) →
    (((n : ℕ) × (lines_read (plain_line bad words_line) s lines ≡ Ok (t, n)))
    ↔ ((are_plain lines ≡ true) × (each words_line s (words_by_line lines) ≡ Ok t)))
