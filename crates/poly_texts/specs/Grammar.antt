-- Which texts are texts of a puzzle.
--
-- A line has one spelling but for comments and blanks. The kinds of pieces are those of the lines in their order, the region
-- has the cells of all `box` and `cells` lines, with `maybe` or without, that no `cut` line names.
--
-- Example: the lines `piece A 100 200`, `box 2 2 1` and `cut 000 110` say the piece A with the cells 0 0 0 and 1 0 0, and the
-- region 0 1 0 and 1 0 0. proofs/GrammarExamples.antt computes it.
use Rattle.std.specs.Prelude.{ℕ, ◌≤◌, ◌<◌, ◌≡◌, ◌==◌, nat_lt, nat_le, Bool, true, false, not, ◌&&◌, ◌++◌, List, [], ◌∷◌, length, map, filter, flat_map, codes, decimal, if◌then◌else◌}
use Rattle.std.specs.List.{list_all}
use Rattle.text_lines.specs.Lines.{lines_of}
use Rattle.text_lines.specs.Writing.{are_plain}
use Rattle.text_lines.specs.Reading.{words_by_line}
use Rattle.poly_cells.specs.Coordinates.{Coordinates}
use Rattle.poly_cells.specs.CellTests.{has_cell, is_in_grid}
use Rattle.poly_cells.specs.CellWords.{cell_word}
use Rattle.poly_texts.specs.Limits.{most_size, most_region_cells, most_piece_cells}
use Rattle.poly_texts.specs.Cells.{with_cells, ordered_without, box_cells}
use Rattle.poly_texts.specs.declared.usage.Usage.{Usage}
use Rattle.poly_texts.specs.declared.usage.Usage.TheVariants as usages
use Rattle.poly_texts.specs.Usages.{are_so_many, may_spare}
use Rattle.poly_texts.specs.Words.{is_name}
use Rattle.poly_texts.specs.Kinds.{KindValue, kind_needed, kind_spare}
use Rattle.poly_texts.specs.Puzzle.{PuzzleValue, puzzle_from, are_new, needs_nothing}
use Rattle.poly_texts.specs.Reading.{kept_shape}

-- what a line says: a kind of pieces, with the cells as they are drawn; a box of these sizes; cells, and whether they may stay empty; or
-- cells to be cut
pub data Line : Type 0 where
  kind : KindValue → Line
  box : ℕ → ℕ → ℕ → Line
  cells : Bool → List Coordinates → Line
  cut : List Coordinates → Line

-- *spelling*

-- the words, after `maybe` if it is so
abbrev pub maybe_words : Bool → List (List ℕ) → List (List ℕ)
maybe_words optional words = if optional then codes "maybe" ∷ words else words

-- the words after that for the use
abbrev pub usage_words : Usage → List (List ℕ) → List (List ℕ)
usage_words usages.Once words = words
usage_words usages.Maybe words = codes "maybe" ∷ words
usage_words usages.Any words = codes "any" ∷ words
usage_words usages.Copies words = words

-- the words, after `mirror` if it is so
abbrev pub mirror_words : Bool → List (List ℕ) → List (List ℕ)
mirror_words mirrored words = if mirrored then codes "mirror" ∷ words else words

-- the word before the symbols
abbrev pub piece_word : Usage → List ℕ
piece_word usages.Once = codes "piece"
piece_word usages.Maybe = codes "piece"
piece_word usages.Any = codes "piece"
piece_word usages.Copies = codes "copies"

-- the word of the symbols, with a `+` before those of spare copies
abbrev pub symbol_word : KindValue → List ℕ
symbol_word k = if k.spare == 0 then k.symbols else kind_needed k ++ 43 ∷ kind_spare k

-- the words of a line
abbrev pub line_words : Line → List (List ℕ)
line_words (kind k) = usage_words k.usage (mirror_words k.mirrored (piece_word k.usage ∷ symbol_word k ∷ map cell_word k.cells))
line_words (box a b c) = codes "box" ∷ decimal a ∷ decimal b ∷ decimal c ∷ []
line_words (cells optional cs) = maybe_words optional (codes "cells" ∷ map cell_word cs)
line_words (cut cs) = codes "cut" ∷ map cell_word cs

-- *the limits of a line*

-- at least one cell, each within the limits
abbrev pub are_in_grid : List Coordinates → Bool
are_in_grid cs = nat_lt 0 (length cs) && list_all is_in_grid cs

-- no cell comes twice
abbrev pub are_apart : List Coordinates → Bool
are_apart [] = true
are_apart (c ∷ cs) = not (has_cell cs c) && are_apart cs

-- the cells of a piece
abbrev pub are_a_piece : List Coordinates → Bool
are_a_piece cs = are_in_grid cs && (are_apart cs && nat_le (length cs) most_piece_cells)

-- a size of a box
abbrev pub is_side : ℕ → Bool
is_side n = nat_lt 0 n && nat_le n most_size

-- letters and digits, as many as the line may have, of which so many may be spare
abbrev pub are_symbols : KindValue → Bool
are_symbols k = list_all is_name k.symbols && (are_so_many k.usage (length k.symbols) && may_spare k.usage k.spare (length k.symbols))

-- a line within the limits
abbrev pub is_line : Line → Bool
is_line (kind k) = are_symbols k && are_a_piece k.cells
is_line (box a b c) = is_side a && (is_side b && is_side c)
is_line (cells optional cs) = are_in_grid cs
is_line (cut cs) = are_in_grid cs

-- *what lines say together*

-- the kind of pieces of a line, with its cells as they are kept
abbrev pub kinds_by : Line → List KindValue
kinds_by (kind k) = record k { cells = kept_shape k.cells } ∷ []
kinds_by line = []

-- the symbols that a line takes
abbrev pub taken_by : Line → List ℕ
taken_by (kind k) = k.symbols
taken_by line = []

-- whether it is a `box` line
abbrev pub is_box : Line → Bool
is_box (box a b c) = true
is_box line = false

-- the cells of a `box` or `cells` line
abbrev pub named_by : Line → List Coordinates
named_by (box a b c) = box_cells a b c
named_by (cells optional cs) = cs
named_by line = []

-- the cells of a `maybe cells` line
abbrev pub maybe_by : Line → List Coordinates
maybe_by (cells optional cs) = if optional then cs else []
maybe_by line = []

-- the cells of a `cut` line
abbrev pub cut_by : Line → List Coordinates
cut_by (cut cs) = cs
cut_by line = []

-- what lines say that are within the limits, alone and together
pub record AreLines (lines : List Line) : Type 0 where
  pub good : list_all is_line lines ≡ true
  pub new : are_new (flat_map taken_by lines) ≡ true
  pub one_box : length (filter is_box lines) ≤ 1
  pub few : length (with_cells [] (flat_map named_by lines)) ≤ most_region_cells

-- the cells of these that no line cuts, in order, each once
abbrev pub uncut : List Line → List Coordinates → List Coordinates
uncut lines cs = ordered_without (flat_map cut_by lines) cs

-- the puzzle of these lines
abbrev pub puzzle_by : List Line → PuzzleValue
puzzle_by lines = puzzle_from (flat_map kinds_by lines) (uncut lines (flat_map named_by lines)) (uncut lines (flat_map maybe_by lines))

-- comments, blanks, empty lines and line ends aside, the text is lines that say the puzzle: with a cell, with a piece, and
-- with one of these required
pub record IsPuzzleText (text : List ℕ) (p : PuzzleValue) : Type 0 where
  pub lines : List Line
  pub plain : are_plain (lines_of text) ≡ true
  pub says : words_by_line (lines_of text) ≡ map line_words lines
  pub within : AreLines lines
  pub puzzle : p ≡ puzzle_by lines
  pub some_cell : 0 < length p.region
  pub some_piece : 0 < length p.kinds
  pub required : needs_nothing p.kinds p.region p.maybe_cells ≡ false
