-- What a text says that is read as a snapshot, or its first fault.
--
-- The lines come in order, and a text that ends before the end of a wanted line is cut off there. Each line is a key and words
-- after it, with one space between two. Once the lines are read, bytes that follow are a fault, and then a second version that
-- nothing asks for. Whether the cuts and the state are on the run, and in the branch, is judged last.
--
-- Example: the text `polysnap 01` and a newline has the fault BadVersion, `hello` is cut off, and with a newline it is a BadHeader.
-- proofs/SnapshotExamples.antt computes it.
use Rattle.std.specs.Prelude.{ℕ, ◌≡◌, zero, suc, ◌+◌, ◌-◌, ◌==◌, nat_lt, nat_le, Bool, not, ◌&&◌, if◌then◌else◌, List, [], ◌∷◌, ◌++◌, length}
use Rattle.std.specs.Prelude.{take, Option, Some, None, option_map, option_and_then, Result, Ok, Err, codes}
use Rattle.std.specs.List.{list_any, list_all}
use Rattle.std.specs.Str.{bytes_eq}
use Rattle.text_lines.specs.Lines.{words_of, is_newline, is_empty}
use Rattle.text_lines.specs.Numbers.{is_digit, number_within}
use Rattle.text_lines.specs.Writing.{spaced}
use Rattle.text_lines.specs.Each.{each, ◌>>=◌}
use Rattle.cover_problem.specs.declared.fault.Fault.{Fault}
use Rattle.cover_problem.specs.Limits.{most_options}
use Rattle.cover_problem.specs.Problem.{ProblemValue, item_named}
use Rattle.cover_problem.specs.Reading.{problem_of}
use Rattle.cover_problem.specs.Grammar.{written}
use Rattle.x_steps.specs.declared.state.Label.{Label}
use Rattle.x_steps.specs.declared.state.Label.TheVariants.{X1, X2, X3, X4, X5, X6, X7, X8, Done}
use Rattle.x_steps.specs.declared.state.Cursor.{Cursor}
use Rattle.x_steps.specs.declared.state.Cursor.TheVariants as cursors
use Rattle.x_steps.specs.StateValue.{StateValue, at}
use Rattle.x_texts.specs.declared.breakpoint.Break.{Break}
use Rattle.x_texts.specs.declared.breakpoint.Break.TheVariants as breakpoints
use Rattle.x_snapshot.specs.declared.reader.breaks.Kind.{Kind}
use Rattle.x_snapshot.specs.declared.reader.breaks.Kind.TheVariants as kinds
use Rattle.x_snapshot.specs.declared.fault.SnapshotFault.{SnapshotFault}
use Rattle.x_snapshot.specs.declared.fault.SnapshotFault.TheVariants.{BadHeader, BadVersion, BadProblem, BadState, Truncated}
use Rattle.x_snapshot.specs.declared.fault.SnapshotFault.TheVariants.{TrailingBytes, Spelling, BadBreak}
use Rattle.x_texts.specs.Breaks.{is_same}
use Rattle.x_snapshot.specs.Snapshot.{SnapshotValue, snapshot_with}
use Rattle.x_snapshot.specs.Writer.{needs_second}
use Rattle.std.specs.Borrow.{Bor}
use Rattle.text_lines.specs.declared.refusal.Refusal.{Refusal}
use Rattle.text_lines.specs.Answers.{Gives}

-- *lines*

-- a byte before a line
abbrev pub onto_line : ℕ → List ℕ × List ℕ → List ℕ × List ℕ
onto_line b s = (b ∷ s.0, s.1)

-- the first line of a text, and what stands after its end
unfoldable pub first_line : List ℕ → Result (List ℕ × List ℕ) SnapshotFault
first_line [] = Err Truncated
first_line (b ∷ bs) = if is_newline b then Ok ([], bs) else (first_line bs >>= λ s. Ok (onto_line b s))

-- the words of a line, one space between two
unfoldable pub line_words : SnapshotFault → List ℕ → Result (List (List ℕ)) SnapshotFault
line_words fault line = if bytes_eq line (spaced (words_of line)) then Ok (words_of line) else Err fault

-- the words after a key
unfoldable pub after_key : SnapshotFault → List ℕ → List (List ℕ) → Result (List (List ℕ)) SnapshotFault
after_key fault key [] = Err fault
after_key fault key (word ∷ words) = if bytes_eq word key then Ok words else Err fault

-- the words after the key of the first line, and what stands after the line
unfoldable pub keyed : SnapshotFault → List ℕ → List ℕ → Result (List (List ℕ) × List ℕ) SnapshotFault
keyed fault key text = do
  line ← first_line text
  words ← line_words fault line.0
  others ← after_key fault key words
  Ok (others, line.1)

-- what the words after a key say, and what stands after the line
unfoldable pub keyed_line : {X : Type 0} → SnapshotFault → List ℕ → (List (List ℕ) → Result X SnapshotFault) → List ℕ
    → Result (X × List ℕ) SnapshotFault
keyed_line fault key form text = do
  line ← keyed fault key text
  said ← form line.0
  Ok (said, line.1)

-- what a call read at the front of a text, as view shows it, and what stands after it, are what was found, unless memory ran out
abbrev pub Reads : {X S F : Type 0} → (X → S) → Result (X × Bor (List ℕ)) (Refusal F) → Result (S × List ℕ) F → Type 0
Reads view result found = Gives (λ r. (view r.0, r.1.now)) result found

-- *words*

-- what was found, or a fault
abbrev pub found_or : {X : Type 0} → SnapshotFault → Option X → Result X SnapshotFault
found_or fault None = Err fault
found_or fault (Some x) = Ok x

-- the only word
abbrev pub only : List (List ℕ) → Option (List ℕ)
only (word ∷ []) = Some word
only _ = None

-- the number that is the only word
unfoldable pub count_from : SnapshotFault → ℕ → List (List ℕ) → Result ℕ SnapshotFault
count_from fault bound words = found_or fault (option_and_then (number_within bound) (only words))

-- a number that isn't 0
abbrev pub positive : ℕ → Option ℕ
positive n = if nat_lt 0 n then Some n else None

-- the number of one of so many options
abbrev pub option_number : ℕ → List ℕ → Option ℕ
option_number bound word = option_and_then positive (number_within bound word)

-- a step so many times, up to the first fault
unfoldable pub repeated : {S F : Type 0} → (S → Result S F) → ℕ → S → Result S F
repeated step zero s = Ok s
repeated step (suc n) s = step s >>= λ t. repeated step n t

-- the words of a text that is borrowed
abbrev pub lent_words : Bor (List ℕ) → List (List ℕ)
lent_words text = words_of text.now

-- *the version*

-- one to nine digits
abbrev pub are_digits : List ℕ → Bool
are_digits word = nat_lt 0 (length word) && nat_le (length word) 9 && list_all is_digit word

-- the version of these digits
abbrev pub version_from : List ℕ → Result ℕ SnapshotFault
version_from word =
    if bytes_eq word (codes "1") then Ok 1 else
    (if bytes_eq word (codes "2") then Ok 2 else Err BadVersion)

-- the only word, which has one to nine digits
abbrev pub digits_from : Option (List ℕ) → Result ℕ SnapshotFault
digits_from None = Err BadHeader
digits_from (Some word) = if are_digits word then version_from word else Err BadHeader

-- the version that the first line says, by the words after its key
unfoldable pub header : List (List ℕ) → Result ℕ SnapshotFault
header words = digits_from (only words)

-- the version, and what stands after the first line
abbrev pub version_in : List ℕ → Result (ℕ × List ℕ) SnapshotFault
version_in text = keyed_line BadHeader (codes "polysnap") header text

-- *the problem*

-- what stands after the first line
abbrev pub after_line : List ℕ → Result (List ℕ) SnapshotFault
after_line text = first_line text >>= λ s. Ok s.1

-- what stands after so many lines
abbrev pub after_lines : ℕ → List ℕ → Result (List ℕ) SnapshotFault
after_lines n text = repeated after_line n text

-- a problem, in the spelling that is written
unfoldable pub spelled : List ℕ → Result ProblemValue (Fault × ℕ) → Result ProblemValue SnapshotFault
spelled text (Ok p) = if bytes_eq (written p) text then Ok p else Err BadProblem
spelled text (Err f) = Err BadProblem

-- the first version has no secondary items
unfoldable pub in_version : ℕ → ProblemValue → Result ProblemValue SnapshotFault
in_version version p = if (version == 1) && nat_lt p.primary (length p.names) then Err BadProblem else Ok p

-- the problem of a text up to what stands after it
unfoldable pub problem_before : ℕ → List ℕ → List ℕ → Result ProblemValue SnapshotFault
problem_before version text rest =
    spelled (take (length text - length rest) text) (problem_of (take (length text - length rest) text)) >>= in_version version

-- the number of the problem's lines, which is at least 1
unfoldable pub lines_from : ℕ → List (List ℕ) → Result ℕ SnapshotFault
lines_from version words = count_from BadProblem (most_options + version) words >>= λ n. found_or BadProblem (positive n)

-- that number, and what stands after its line
abbrev pub lines_in : ℕ → List ℕ → Result (ℕ × List ℕ) SnapshotFault
lines_in version text = keyed_line BadProblem (codes "problem") (lines_from version) text

-- the problem, and what stands after it
unfoldable pub problem_in : ℕ → List ℕ → Result (ProblemValue × List ℕ) SnapshotFault
problem_in version text = do
  count ← lines_in version text
  rest ← after_lines count.0 count.1
  problem ← problem_before version count.1 rest
  Ok (problem, rest)

-- *the branch and the state*

-- choices with one more
unfoldable pub add_choice : List ℕ → List ℕ → Result (List ℕ) SnapshotFault
add_choice path word = found_or BadState (option_number most_options word) >>= λ o. Ok (path ++ o ∷ [])

-- the choices of these words
abbrev pub choices_from : List (List ℕ) → Result (List ℕ) SnapshotFault
choices_from words = each add_choice [] words

-- a path, if there is one
abbrev pub some_path : List ℕ → Result (Option (List ℕ)) SnapshotFault
some_path path = Ok (Some path)

-- a cut: a word for none, or at least one choice
unfoldable pub cut_from : List ℕ → List (List ℕ) → Result (Option (List ℕ)) SnapshotFault
cut_from none [] = Err BadState
cut_from none (word ∷ words) = if bytes_eq word none && is_empty words then Ok None else (choices_from (word ∷ words) >>= some_path)

-- the cut of a line with this key, and what stands after the line
abbrev pub cut_in : List ℕ → List ℕ → List ℕ → Result (Option (List ℕ) × List ℕ) SnapshotFault
cut_in key none text = keyed_line BadState key (cut_from none) text

-- the label of a word
abbrev pub label_from : List ℕ → Option Label
label_from word =
    if bytes_eq word (codes "X1") then Some X1 else
    (if bytes_eq word (codes "X2") then Some X2 else
    (if bytes_eq word (codes "X3") then Some X3 else
    (if bytes_eq word (codes "X4") then Some X4 else
    (if bytes_eq word (codes "X5") then Some X5 else
    (if bytes_eq word (codes "X6") then Some X6 else
    (if bytes_eq word (codes "X7") then Some X7 else
    (if bytes_eq word (codes "X8") then Some X8 else
    (if bytes_eq word (codes "Done") then Some Done else None))))))))

-- the cursor of a word
abbrev pub cursor_from : List ℕ → Option Cursor
cursor_from word =
    if bytes_eq word (codes "-") then Some cursors.None else
    (if bytes_eq word (codes "past") then Some cursors.Past else option_map cursors.At (option_number most_options word))

-- a state without its choices
abbrev pub step_from : List ℕ → List ℕ → Option (Label × Cursor)
step_from label cursor = option_and_then (λ l. option_map (λ k. (l, k)) (cursor_from cursor)) (label_from label)

-- the state that these words say: a label, a cursor, and the choices of its path
unfoldable pub state_from : List (List ℕ) → Result StateValue SnapshotFault
state_from (label ∷ cursor ∷ words) = do
  step ← found_or BadState (step_from label cursor)
  path ← choices_from words
  Ok (at step.0 path step.1)
state_from _ = Err BadState

-- the state of a line, and what stands after the line
abbrev pub state_in : List ℕ → Result (StateValue × List ℕ) SnapshotFault
state_in text = keyed_line BadState (codes "state") state_from text

-- nothing but the key
unfoldable pub end_from : List (List ℕ) → Result (Unit {0}) SnapshotFault
end_from words = if is_empty words then Ok tt else Err BadState

-- the last line, and what stands after it
abbrev pub end_in : List ℕ → Result (Unit {0} × List ℕ) SnapshotFault
end_in text = keyed_line BadState (codes "end") end_from text

-- *breakpoints*

-- the breakpoint of a kind, over a problem
abbrev pub level_from : ProblemValue → List ℕ → Option Break
level_from p word = option_map breakpoints.Level (number_within (length p.names) word)

-- the breakpoint at an option of problem p, by the option's number
abbrev pub option_break_from : ProblemValue → List ℕ → Option Break
option_break_from p word = option_map breakpoints.Option (option_number (length p.options) word)

-- the breakpoint at an item of problem p, by the item's name
abbrev pub item_from : ProblemValue → List ℕ → Option Break
item_from p word = option_map breakpoints.Item (item_named p.names word)

-- the kind that a word names
abbrev pub kind_from : List ℕ → Option Kind
kind_from word =
    if bytes_eq word (codes "level") then Some kinds.Level else
    (if bytes_eq word (codes "option") then Some kinds.Option else
    (if bytes_eq word (codes "item") then Some kinds.Item else None))

-- the breakpoint of a kind and the word after it
abbrev pub break_of : ProblemValue → Option Kind → List ℕ → Option Break
break_of p None word = None
break_of p (Some kinds.Level) word = level_from p word
break_of p (Some kinds.Option) word = option_break_from p word
break_of p (Some kinds.Item) word = item_from p word

-- the breakpoint of one word
abbrev pub lone_break : List ℕ → Option Break
lone_break kind = if bytes_eq kind (codes "visit") then Some breakpoints.Visit else None

-- the breakpoint of these words
unfoldable pub break_from : ProblemValue → List (List ℕ) → Option Break
break_from p (kind ∷ []) = lone_break kind
break_from p (kind ∷ word ∷ []) = break_of p (kind_from kind) word
break_from p _ = None

-- the same, or the fault of a line whose words are no breakpoint over problem p
abbrev pub break_of_words : ProblemValue → List (List ℕ) → Result Break SnapshotFault
break_of_words p words = found_or BadBreak (break_from p words)

-- the breakpoint of a line, and what stands after the line
abbrev pub break_in : ProblemValue → List ℕ → Result (Break × List ℕ) SnapshotFault
break_in p text = keyed_line BadBreak (codes "break") (break_of_words p) text

-- breakpoints with one more, which is new
abbrev pub new_break : List Break → Break → Result (List Break) SnapshotFault
new_break bs b = if list_any (is_same b) bs then Err BadBreak else Ok (bs ++ b ∷ [])

-- breakpoints with that of the next line, and what stands after it
unfoldable pub add_break : ProblemValue → List Break → List ℕ → Result (List Break × List ℕ) SnapshotFault
add_break p bs text = do
  line ← break_in p text
  more ← new_break bs line.0
  Ok (more, line.1)

-- the same, where both stand together
abbrev pub next_break : ProblemValue → List Break × List ℕ → Result (List Break × List ℕ) SnapshotFault
next_break p s = add_break p s.0 s.1

-- the breakpoints of so many lines, and what stands after them
abbrev pub breaks_from : ProblemValue → ℕ → List ℕ → Result (List Break × List ℕ) SnapshotFault
breaks_from p n text = repeated (next_break p) n ([], text)

-- the greatest number of nine digits
abbrev pub most_breaks : ℕ
most_breaks = 999999999

-- the number of breakpoints, and what stands after its line
abbrev pub count_in : List ℕ → Result (ℕ × List ℕ) SnapshotFault
count_in text = keyed_line BadBreak (codes "breaks") (count_from BadBreak most_breaks) text

-- the breakpoints, and what stands after them
unfoldable pub breaks_in : ProblemValue → List ℕ → Result (List Break × List ℕ) SnapshotFault
breaks_in p text = do
  count ← count_in text
  breaks_from p count.0 count.1

-- the first version has none
unfoldable pub breaks_of_version : ℕ → ProblemValue → List ℕ → Result (List Break × List ℕ) SnapshotFault
breaks_of_version version p text = if version == 2 then breaks_in p text else Ok ([], text)

-- *the whole text*

-- nothing follows, and the second version is needed
unfoldable pub checked_end : ℕ → ProblemValue → List Break → List ℕ → Result (Unit {0}) SnapshotFault
checked_end version p breaks rest =
    if nat_lt 0 (length rest) then Err TrailingBytes else
    (if (version == 2) && not (needs_second p breaks) then Err Spelling else Ok tt)

-- the cuts and the state
unfoldable pub position_in : List ℕ → Result ((Option (List ℕ) × Option (List ℕ) × StateValue) × List ℕ) SnapshotFault
position_in text = do
  lo ← cut_in (codes "from") (codes "start") text
  hi ← cut_in (codes "to") (codes "end") lo.1
  state ← state_in hi.1
  Ok ((lo.0, hi.0, state.0), state.1)

-- after the breakpoints: the last line, and nothing that it doesn't allow
unfoldable pub ended : ℕ → ProblemValue → List Break → List ℕ → Result (Unit {0}) SnapshotFault
ended version p breaks text = do
  end ← end_in text
  checked_end version p breaks end.1

-- what a text says after its problem: the cuts, the state and the breakpoints
unfoldable pub parts_after : ℕ → ProblemValue → List ℕ → Result SnapshotValue SnapshotFault
parts_after version p text = do
  position ← position_in text
  breaks ← breaks_of_version version p position.1
  checked ← ended version p breaks.0 breaks.1
  Ok (snapshot_with p position.0.0 position.0.1 position.0.2 breaks.0)

-- what a text says, or its first fault; whether it is on the run is not judged
unfoldable pub parts_of : List ℕ → Result SnapshotValue SnapshotFault
parts_of text = do
  version ← version_in text
  problem ← problem_in version.0 version.1
  parts_after version.0 problem.0 problem.1

-- the lines of a text say the parts of this snapshot
abbrev pub Says : List ℕ → SnapshotValue → Type 0
Says text v = parts_of text ≡ Ok v
