-- What a cover text says, line by line, or its first fault.
--
--     items a b c     the items that have to be covered: one such line
--     maybe d         the items that may be covered: at most one such line, after `items` and before any option
--     option a d      an option: its items
--
-- A name is one to eight letters, digits and `_`. The first fault is the one of the first line that has one; in a line a fault
-- of its form comes first, then the want of an `items` line, then the words from the left, then the size of the problem so far.
--
-- Example: `items a`, `option a a` has the fault ItemTwiceInOption in line 2; `items a`, `option z` has UnknownItem there;
-- a text of no lines has NoItemLine in line 0. proofs/ReadingExamples.antt computes them.
use Rattle.std.specs.Prelude.{ℕ, ◌==◌, nat_lt, ◌||◌, List, [], ◌∷◌, ◌++◌, length, Option, Some, None, Result, Ok, Err, ◌≡◌, codes}
use Rattle.std.specs.Prelude.{if◌then◌else◌}
use Rattle.std.specs.Str.{bytes_eq}
use Rattle.text_lines.specs.Lines.{lines_of, is_empty}
use Rattle.text_lines.specs.Each.{each, ◌>>=◌}
use Rattle.text_lines.specs.Reading.{plain_line, lines_read, text_read}
use Rattle.cover_problem.specs.declared.fault.Fault.{Fault}
use Rattle.cover_problem.specs.declared.fault.Fault.TheVariants.{BadName, UnknownItem, NoItemLine, BadLine}
use Rattle.cover_problem.specs.declared.key.Key.{Key}
use Rattle.cover_problem.specs.declared.key.Key.TheVariants as keys
use Rattle.cover_problem.specs.Problem.{ProblemValue, is_name, item_named}
use Rattle.cover_problem.specs.Validation.{add_name, with_item, within}

-- *the words of a line*

-- an item that was looked for
abbrev pub found_or : Option ℕ → Result ℕ Fault
found_or None = Err UnknownItem
found_or (Some i) = Ok i

-- the item of a name
unfoldable pub item_of : List (List ℕ) → List ℕ → Result ℕ Fault
item_of names word = if is_name word then found_or (item_named names word) else Err BadName

-- the items of an option with one more, given by its name, which is new there
unfoldable pub add_item : List (List ℕ) → List ℕ → List ℕ → Result (List ℕ) Fault
add_item names taken word = item_of names word >>= with_item taken

-- *the lines: what is read so far has no names before the `items` line, and more than `primary` after the `maybe` line*

-- nothing is read
abbrev pub nothing : ProblemValue
nothing = record { names = []; primary = 0; options = [] }

-- the `items` line: the first, with a name
unfoldable pub items_line : ProblemValue → List (List ℕ) → Result ProblemValue Fault
items_line p words =
    if is_empty words || nat_lt 0 p.primary then Err BadLine else (do
      names ← each add_name [] words
      within (record { names = names; primary = length names; options = [] }))

-- the `maybe` line: the first, with a name, before any option
unfoldable pub maybe_line : ProblemValue → List (List ℕ) → Result ProblemValue Fault
maybe_line p words =
    if is_empty words || nat_lt p.primary (length p.names) || nat_lt 0 (length p.options) then Err BadLine else
    (if p.primary == 0 then Err NoItemLine else (do
      names ← each add_name p.names words
      within (record { names = names; primary = p.primary; options = [] })))

-- an `option` line, with an item
unfoldable pub option_line : ProblemValue → List (List ℕ) → Result ProblemValue Fault
option_line p words =
    if is_empty words then Err BadLine else
    (if p.primary == 0 then Err NoItemLine else (do
      option ← each (add_item p.names) [] words
      within (record { names = p.names; primary = p.primary; options = p.options ++ option ∷ [] })))

-- what the first word of a line says that the line is
abbrev pub key_from : List ℕ → Option Key
key_from word =
    if bytes_eq word (codes "items") then Some keys.Items else
    (if bytes_eq word (codes "maybe") then Some keys.Maybe else
    (if bytes_eq word (codes "option") then Some keys.Option else None))

-- a line of a key and the words after it
abbrev pub keyed_line : Option Key → ProblemValue → List (List ℕ) → Result ProblemValue Fault
keyed_line None p words = Err BadLine
keyed_line (Some keys.Items) p words = items_line p words
keyed_line (Some keys.Maybe) p words = maybe_line p words
keyed_line (Some keys.Option) p words = option_line p words

-- a line of these words; one without words says nothing
unfoldable pub words_line : ProblemValue → List (List ℕ) → Result ProblemValue Fault
words_line p [] = Ok p
words_line p (key ∷ words) = keyed_line (key_from key) p words

-- a line, with its comment: a byte that isn't plain may stand in the comment alone
unfoldable pub line : ProblemValue → List ℕ → Result ProblemValue Fault
line p bytes = plain_line BadLine words_line p bytes

-- *the whole text*

-- the whole text has an `items` line
abbrev pub with_items : ProblemValue → Result ProblemValue Fault
with_items p = if nat_lt 0 p.primary then Ok p else Err NoItemLine

-- the problem of a text; or its first fault, and the number of its line, which is 0 for a fault of the whole text
unfoldable pub problem_of : List ℕ → Result ProblemValue (Fault × ℕ)
problem_of text = text_read line nothing with_items (lines_of text)

-- no line has a fault, and none says which items have to be covered
abbrev pub LacksItems : List ℕ → Type 0
LacksItems text = (p : ProblemValue) × (n : ℕ) × (lines_read line nothing (lines_of text) ≡ Ok (p, n)) × (p.primary ≡ 0)
