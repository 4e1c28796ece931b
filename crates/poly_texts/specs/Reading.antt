-- What a puzzle text says, line by line, or its first fault.
--
--     piece N c ..         a piece named N with these cells; after `maybe` one that may be left out, after `any` one that may be used
--                          any number of times; after `mirror` (and these) one that may be reflected
--     any piece W c ..     a piece named by the first symbol of W, whose copies are shown by the symbols of W in turn
--     copies W c ..        equal pieces with these cells, one for each symbol of W; after `mirror` such that may be reflected
--     copies V+W c ..      the same for the symbols of V and of W, where those of W may be left out, and are used in their order
--     box a b c            all cells with x below a, y below b and z below c: at most one such line
--     cells c ..           these cells; cells that may stay empty, after `maybe`
--     cut c ..             none of these cells
--
-- The region has all cells of `box` and `cells` lines, with `maybe` or without, that no `cut` line names. The first fault is
-- the one of the first line that has one; in a line a fault of its form comes first, then a second piece of a name or a second
-- box, then the words from the left, then the size of the region so far, with nothing cut.
--
-- Example: `piece A 000 000` has the fault RepeatedCell in line 1; a text of no lines has EmptyRegion in line 0, and
-- `box 1 1 1` alone NoPiece. proofs/ReadingExamples.antt computes them.
use Rattle.std.specs.Prelude.{ℕ, ◌==◌, nat_lt, nat_le, Bool, true, false, not, ◌||◌, List, [], ◌∷◌, ◌++◌, length, Option, Some, None, Result, Ok, Err, codes, if◌then◌else◌}
use Rattle.std.specs.Str.{bytes_eq}
use Rattle.text_lines.specs.Lines.{lines_of, is_empty}
use Rattle.text_lines.specs.Each.{each, ◌>>=◌}
use Rattle.text_lines.specs.Reading.{plain_line, text_read}
use Rattle.poly_cells.specs.Coordinates.{Coordinates, coordinates_cmp}
use Rattle.poly_cells.specs.Sets.{in_order}
use Rattle.poly_cells.specs.Shapes.{normal}
use Rattle.poly_texts.specs.Limits.{most_region_cells, most_piece_cells}
use Rattle.poly_texts.specs.declared.fault.Fault.{Fault}
use Rattle.poly_texts.specs.declared.fault.Fault.TheVariants.{BadLine, BadCell, RepeatedCell, RepeatedPiece, SecondBox, EmptyRegion, NoPiece, TooLarge, NothingRequired}
use Rattle.poly_texts.specs.declared.key.Key.{Key}
use Rattle.poly_texts.specs.declared.key.Key.TheVariants as keys
use Rattle.poly_texts.specs.declared.usage.Usage.{Usage}
use Rattle.poly_texts.specs.declared.usage.Usage.TheVariants as usages
use Rattle.poly_texts.specs.declared.form.Form.{Form}
use Rattle.poly_cells.specs.CellTests.{has_cell}
use Rattle.poly_cells.specs.CellWords.{cell_of}
use Rattle.poly_texts.specs.Cells.{with_cell, with_cells, ordered_without, box_cells}
use Rattle.poly_texts.specs.Usages.{is_once}
use Rattle.poly_texts.specs.Kinds.{KindValue, kind_with, form_of}
use Rattle.poly_texts.specs.Words.{word_names, has_plus, before_plus, after_plus, are_sizes, are_small, size_from}
use Rattle.poly_texts.specs.Puzzle.{PuzzleValue, puzzle_from, symbols_in, needs_nothing, has_name}

-- what the lines so far say: the kinds of pieces, whether there was a box, and the cells that lines name, that `maybe cells` lines name and
-- that `cut` lines name, each cell once
pub record DraftValue : Type 0 where
  pub kinds : List KindValue
  pub boxed : Bool
  pub named : List Coordinates
  pub maybe_cells : List Coordinates
  pub cut : List Coordinates

-- no lines say this
abbrev pub nothing : DraftValue
nothing = record { kinds = []; boxed = false; named = []; maybe_cells = []; cut = [] }

-- *the words of a line*

-- a cell that was looked for
abbrev pub found_or : Option Coordinates → Result Coordinates Fault
found_or None = Err BadCell
found_or (Some c) = Ok c

-- these cells with that of a word, each once
unfoldable pub add_cell : List Coordinates → List ℕ → Result (List Coordinates) Fault
add_cell cells word = found_or (cell_of word) >>= λ c. Ok (with_cell cells c)

-- these cells with those of words, each once
abbrev pub add_cells : List Coordinates → List (List ℕ) → Result (List Coordinates) Fault
add_cells cells words = each add_cell cells words

-- the cells of a piece with one more, which is new there
abbrev pub new_cell : List Coordinates → Coordinates → Result (List Coordinates) Fault
new_cell cells c = if has_cell cells c then Err RepeatedCell else Ok (cells ++ c ∷ [])

-- the same, where the cell is given by its word
unfoldable pub add_piece_cell : List Coordinates → List ℕ → Result (List Coordinates) Fault
add_piece_cell cells word = if nat_lt (length cells) most_piece_cells then found_or (cell_of word) >>= new_cell cells else Err TooLarge

-- the cells of a piece as they are kept: in order, with the least corner at 0 0 0
abbrev pub kept_shape : List Coordinates → List Coordinates
kept_shape cells = normal (in_order coordinates_cmp cells)

-- the piece of these words
unfoldable pub shape_of : List (List ℕ) → Result (List Coordinates) Fault
shape_of words = each add_piece_cell [] words >>= λ cells. Ok (kept_shape cells)

-- *the lines*

-- what is said, where it is within the limits
abbrev pub within : DraftValue → Result DraftValue Fault
within s = if nat_le (length s.named) most_region_cells then Ok s else Err TooLarge

-- with one kind more
abbrev pub with_kind : DraftValue → KindValue → DraftValue
with_kind s k = record s { kinds = s.kinds ++ k ∷ [] }

-- the symbol stands in one of the lines so far
abbrev pub taken_in : DraftValue → ℕ → Bool
taken_in s = has_name (symbols_in s.kinds)

-- one of the names is taken, or comes twice
abbrev pub some_repeated : (ℕ → Bool) → List ℕ → Bool
some_repeated taken [] = false
some_repeated taken (n ∷ ns) = taken n || (has_name ns n || some_repeated taken ns)

-- new names
abbrev pub are_fresh : (ℕ → Bool) → Option (List ℕ) → Result (List ℕ) Fault
are_fresh taken None = Err BadLine
are_fresh taken (Some names) = if some_repeated taken names then Err RepeatedPiece else Ok names

-- the same, where they are given by a word
unfoldable pub new_names : (ℕ → Bool) → Usage → List ℕ → Result (List ℕ) Fault
new_names taken usage word = are_fresh taken (word_names usage word)

-- a line that says a kind of this form, with the symbols of a word, and a cell
unfoldable pub kind_line : DraftValue → Form → List ℕ → List (List ℕ) → Result DraftValue Fault
kind_line s form word words =
    if is_empty words then Err BadLine else (do
      symbols ← new_names (taken_in s) form.usage word
      shape ← shape_of words
      Ok (with_kind s (kind_with form symbols shape)))

-- a `piece` line
unfoldable pub piece_line : DraftValue → Usage → Bool → List (List ℕ) → Result DraftValue Fault
piece_line s usage mirrored [] = Err BadLine
piece_line s usage mirrored (word ∷ words) = kind_line s (form_of usage mirrored 0) word words

-- a `copies` line with a `+`: the symbols before it and those after it, one after it at least
abbrev pub range_line : DraftValue → Bool → List ℕ → List ℕ → List (List ℕ) → Result DraftValue Fault
range_line s mirrored needed spare words =
    if length spare == 0 then Err BadLine else kind_line s (form_of usages.Copies mirrored (length spare)) (needed ++ spare) words

-- a `copies` line, with a `+` or without
unfoldable pub copies_line : DraftValue → Bool → List (List ℕ) → Result DraftValue Fault
copies_line s mirrored [] = Err BadLine
copies_line s mirrored (word ∷ words) =
    if has_plus word then range_line s mirrored (before_plus word) (after_plus word) words else
    kind_line s (form_of usages.Copies mirrored 0) word words

-- three words, and no others
abbrev pub three_words : List (List ℕ) → Option (List ℕ × List ℕ × List ℕ)
three_words (a ∷ b ∷ c ∷ []) = Some (a, b, c)
three_words words = None

-- with a box of these sizes
abbrev pub with_box : DraftValue → ℕ → ℕ → ℕ → DraftValue
with_box s a b c = record s { boxed = true; named = with_cells s.named (box_cells a b c) }

-- a box of these sizes: the first, and not too large
abbrev pub sized_box : DraftValue → Option (List ℕ × List ℕ × List ℕ) → Result DraftValue Fault
sized_box s None = Err BadLine
sized_box s (Some (a, b, c)) =
    if not (are_sizes a b c) then Err BadLine else
    (if s.boxed then Err SecondBox else
    (if are_small a b c then within (with_box s (size_from a) (size_from b) (size_from c)) else Err TooLarge))

-- a `box` line: three sizes
unfoldable pub box_line : DraftValue → List (List ℕ) → Result DraftValue Fault
box_line s words = sized_box s (three_words words)

-- a `cells` line, with a cell
unfoldable pub cells_line : DraftValue → List (List ℕ) → Result DraftValue Fault
cells_line s words =
    if is_empty words then Err BadLine else (add_cells s.named words >>= λ named. within (record s { named = named }))

-- a `maybe cells` line, with a cell
unfoldable pub maybe_cells_line : DraftValue → List (List ℕ) → Result DraftValue Fault
maybe_cells_line s words =
    if is_empty words then Err BadLine else (do
      named ← add_cells s.named words
      maybe ← add_cells s.maybe_cells words
      within (record s { named = named; maybe_cells = maybe }))

-- a `cut` line, with a cell
unfoldable pub cut_line : DraftValue → List (List ℕ) → Result DraftValue Fault
cut_line s words =
    if is_empty words then Err BadLine else (add_cells s.cut words >>= λ cut. Ok (record s { cut = cut }))

-- what a word at the front of a line says
abbrev pub key_from : List ℕ → Option Key
key_from word =
    if bytes_eq word (codes "piece") then Some keys.Piece else
    (if bytes_eq word (codes "box") then Some keys.Box else
    (if bytes_eq word (codes "cells") then Some keys.Cells else
    (if bytes_eq word (codes "cut") then Some keys.Cut else
    (if bytes_eq word (codes "maybe") then Some keys.Maybe else
    (if bytes_eq word (codes "any") then Some keys.Any else
    (if bytes_eq word (codes "mirror") then Some keys.Mirror else
    (if bytes_eq word (codes "copies") then Some keys.Copies else None)))))))

-- a `copies` line after `mirror`, before which no other word stands
abbrev pub mirrored_copies : DraftValue → Usage → List (List ℕ) → Result DraftValue Fault
mirrored_copies s usage words = if not (is_once usage) then Err BadLine else copies_line s true words

-- a line after `mirror`, by its key
abbrev pub mirror_keyed : Option Key → DraftValue → Usage → List (List ℕ) → Result DraftValue Fault
mirror_keyed (Some keys.Piece) s usage words = piece_line s usage true words
mirror_keyed (Some keys.Copies) s usage words = mirrored_copies s usage words
mirror_keyed (Some keys.Cells) s usage words = Err BadLine
mirror_keyed (Some keys.Box) s usage words = Err BadLine
mirror_keyed (Some keys.Cut) s usage words = Err BadLine
mirror_keyed (Some keys.Maybe) s usage words = Err BadLine
mirror_keyed (Some keys.Any) s usage words = Err BadLine
mirror_keyed (Some keys.Mirror) s usage words = Err BadLine
mirror_keyed None s usage words = Err BadLine

-- a `mirror` line: the words after `mirror`
unfoldable pub mirror_line : DraftValue → Usage → List (List ℕ) → Result DraftValue Fault
mirror_line s usage [] = Err BadLine
mirror_line s usage (key ∷ words) = mirror_keyed (key_from key) s usage words

-- a line of a second key, after `maybe`, and the words after it
abbrev pub maybe_keyed : Option Key → DraftValue → List (List ℕ) → Result DraftValue Fault
maybe_keyed (Some keys.Piece) s words = piece_line s usages.Maybe false words
maybe_keyed (Some keys.Cells) s words = maybe_cells_line s words
maybe_keyed (Some keys.Mirror) s words = mirror_line s usages.Maybe words
maybe_keyed (Some keys.Box) s words = Err BadLine
maybe_keyed (Some keys.Cut) s words = Err BadLine
maybe_keyed (Some keys.Maybe) s words = Err BadLine
maybe_keyed (Some keys.Any) s words = Err BadLine
maybe_keyed (Some keys.Copies) s words = Err BadLine
maybe_keyed None s words = Err BadLine

-- a `maybe` line: the words after `maybe`
unfoldable pub maybe_line : DraftValue → List (List ℕ) → Result DraftValue Fault
maybe_line s [] = Err BadLine
maybe_line s (key ∷ words) = maybe_keyed (key_from key) s words

-- a line of a second key, after `any`, and the words after it
abbrev pub any_keyed : Option Key → DraftValue → List (List ℕ) → Result DraftValue Fault
any_keyed (Some keys.Piece) s words = piece_line s usages.Any false words
any_keyed (Some keys.Mirror) s words = mirror_line s usages.Any words
any_keyed (Some keys.Cells) s words = Err BadLine
any_keyed (Some keys.Box) s words = Err BadLine
any_keyed (Some keys.Cut) s words = Err BadLine
any_keyed (Some keys.Maybe) s words = Err BadLine
any_keyed (Some keys.Any) s words = Err BadLine
any_keyed (Some keys.Copies) s words = Err BadLine
any_keyed None s words = Err BadLine

-- an `any` line: the words after `any`
unfoldable pub any_line : DraftValue → List (List ℕ) → Result DraftValue Fault
any_line s [] = Err BadLine
any_line s (key ∷ words) = any_keyed (key_from key) s words

-- a line of a key and the words after it
abbrev pub keyed_line : Option Key → DraftValue → List (List ℕ) → Result DraftValue Fault
keyed_line (Some keys.Piece) s words = piece_line s usages.Once false words
keyed_line (Some keys.Box) s words = box_line s words
keyed_line (Some keys.Cells) s words = cells_line s words
keyed_line (Some keys.Cut) s words = cut_line s words
keyed_line (Some keys.Maybe) s words = maybe_line s words
keyed_line (Some keys.Any) s words = any_line s words
keyed_line (Some keys.Mirror) s words = mirror_line s usages.Once words
keyed_line (Some keys.Copies) s words = copies_line s false words
keyed_line None s words = Err BadLine

-- a line of these words; one without words says nothing
unfoldable pub words_line : DraftValue → List (List ℕ) → Result DraftValue Fault
words_line s [] = Ok s
words_line s (key ∷ words) = keyed_line (key_from key) s words

-- a line, with its comment: a byte that isn't plain may stand in the comment alone
unfoldable pub line : DraftValue → List ℕ → Result DraftValue Fault
line s bytes = plain_line BadLine words_line s bytes

-- *the whole text*

-- the region that is said, in order
abbrev pub region_of : DraftValue → List Coordinates
region_of s = ordered_without s.cut s.named

-- the cells of the region that may stay empty, in order
abbrev pub maybe_region_of : DraftValue → List Coordinates
maybe_region_of s = ordered_without s.cut s.maybe_cells

-- the fault of a whole text of these kinds, with this region and these cells that may stay empty: no cell, no piece, or none of them
-- required
abbrev pub whole_fault : List KindValue → List Coordinates → List Coordinates → Option Fault
whole_fault kinds region maybe_cells =
    if length region == 0 then Some EmptyRegion else
    (if length kinds == 0 then Some NoPiece else
    (if needs_nothing kinds region maybe_cells then Some NothingRequired else None))

-- the puzzle that is said
abbrev pub puzzle_said : DraftValue → PuzzleValue
puzzle_said s = puzzle_from s.kinds (region_of s) (maybe_region_of s)

-- a puzzle, unless there is a fault
abbrev pub unless : Option Fault → PuzzleValue → Result PuzzleValue Fault
unless None p = Ok p
unless (Some f) p = Err f

-- the puzzle of all lines
unfoldable pub whole_puzzle : DraftValue → Result PuzzleValue Fault
whole_puzzle s = unless (whole_fault s.kinds (region_of s) s.maybe_cells) (puzzle_said s)

-- the puzzle of a text; or its first fault, and the number of its line, which is 0 for a fault of the whole text
unfoldable pub puzzle_of : List ℕ → Result PuzzleValue (Fault × ℕ)
puzzle_of text = text_read line nothing whole_puzzle (lines_of text)
