-- The plain lines of a puzzle text: those without equal pieces, pieces used any number of times and pieces that may be reflected. A text of
-- these lines is read as the puzzle that they say, whatever the other lines mean.
--
-- Example: the line `maybe piece A 000` is one of them, and says the piece A, which may be left out. proofs/GrammarExamples.antt computes it.
use Rattle.std.specs.Prelude.{ℕ, ◌≤◌, ◌<◌, ◌≡◌, Bool, true, false, ◌&&◌, List, [], ◌∷◌, length, map, filter, flat_map, codes, decimal, Ok, if◌then◌else◌}
use Rattle.std.specs.List.{list_all}
use Rattle.text_lines.specs.Lines.{lines_of}
use Rattle.text_lines.specs.Writing.{are_plain}
use Rattle.text_lines.specs.Reading.{words_by_line}
use Rattle.poly_cells.specs.Coordinates.{Coordinates}
use Rattle.poly_cells.specs.CellWords.{cell_word}
use Rattle.poly_texts.specs.Limits.{most_region_cells}
use Rattle.poly_texts.specs.Cells.{with_cells, ordered_without, box_cells}
use Rattle.poly_texts.specs.declared.usage.Usage.{Usage}
use Rattle.poly_texts.specs.declared.usage.Usage.TheVariants as usages
use Rattle.poly_texts.specs.Words.{is_name}
use Rattle.poly_texts.specs.Kinds.{KindValue, kind_with, form_of}
use Rattle.poly_texts.specs.Puzzle.{PuzzleValue, puzzle_from, symbols_in, are_new, needs_nothing}
use Rattle.poly_texts.specs.Reading.{kept_shape, puzzle_of}
use Rattle.poly_texts.specs.Grammar.{maybe_words, are_in_grid, are_a_piece, is_side}

-- what such a line says: a piece, whether it may be left out, with its name and its cells; a box of these sizes; cells, and whether they
-- may stay empty; or cells to be cut
pub data PlainLine : Type 0 where
  plain_piece : Bool → ℕ → List Coordinates → PlainLine
  plain_box : ℕ → ℕ → ℕ → PlainLine
  plain_cells : Bool → List Coordinates → PlainLine
  plain_cut : List Coordinates → PlainLine

-- the words of such a line
abbrev pub plain_words : PlainLine → List (List ℕ)
plain_words (plain_piece optional name cs) = maybe_words optional (codes "piece" ∷ (name ∷ []) ∷ map cell_word cs)
plain_words (plain_box a b c) = codes "box" ∷ decimal a ∷ decimal b ∷ decimal c ∷ []
plain_words (plain_cells optional cs) = maybe_words optional (codes "cells" ∷ map cell_word cs)
plain_words (plain_cut cs) = codes "cut" ∷ map cell_word cs

-- such a line within the limits
abbrev pub is_plain_line : PlainLine → Bool
is_plain_line (plain_piece optional name cs) = is_name name && are_a_piece cs
is_plain_line (plain_box a b c) = is_side a && (is_side b && is_side c)
is_plain_line (plain_cells optional cs) = are_in_grid cs
is_plain_line (plain_cut cs) = are_in_grid cs

-- how a piece is used that may be left out, or may not
abbrev pub plain_usage : Bool → Usage
plain_usage optional = if optional then usages.Maybe else usages.Once

-- the kind of a `piece` line: one piece, as it is kept
abbrev pub plain_kind_of : PlainLine → List KindValue
plain_kind_of (plain_piece optional name cs) = kind_with (form_of (plain_usage optional) false 0) (name ∷ []) (kept_shape cs) ∷ []
plain_kind_of (plain_box a b c) = []
plain_kind_of (plain_cells optional cs) = []
plain_kind_of (plain_cut cs) = []

-- whether it is a `box` line
abbrev pub is_plain_box : PlainLine → Bool
is_plain_box (plain_piece optional name cs) = false
is_plain_box (plain_box a b c) = true
is_plain_box (plain_cells optional cs) = false
is_plain_box (plain_cut cs) = false

-- the cells of a `box` or `cells` line
abbrev pub plain_named : PlainLine → List Coordinates
plain_named (plain_piece optional name cs) = []
plain_named (plain_box a b c) = box_cells a b c
plain_named (plain_cells optional cs) = cs
plain_named (plain_cut cs) = []

-- the cells of a `maybe cells` line
abbrev pub plain_maybe : PlainLine → List Coordinates
plain_maybe (plain_piece optional name cs) = []
plain_maybe (plain_box a b c) = []
plain_maybe (plain_cells optional cs) = if optional then cs else []
plain_maybe (plain_cut cs) = []

-- the cells of a `cut` line
abbrev pub plain_cut_cells : PlainLine → List Coordinates
plain_cut_cells (plain_piece optional name cs) = []
plain_cut_cells (plain_box a b c) = []
plain_cut_cells (plain_cells optional cs) = []
plain_cut_cells (plain_cut cs) = cs

-- what such lines say that are within the limits, alone and together
pub record ArePlainLines (lines : List PlainLine) : Type 0 where
  pub good : list_all is_plain_line lines ≡ true
  pub new : are_new (symbols_in (flat_map plain_kind_of lines)) ≡ true
  pub one_box : length (filter is_plain_box lines) ≤ 1
  pub few : length (with_cells [] (flat_map plain_named lines)) ≤ most_region_cells

-- the cells of these that no line cuts, in order, each once
abbrev pub plain_uncut : List PlainLine → List Coordinates → List Coordinates
plain_uncut lines cs = ordered_without (flat_map plain_cut_cells lines) cs

-- the puzzle of such lines
abbrev pub plain_puzzle_by : List PlainLine → PuzzleValue
plain_puzzle_by lines =
    puzzle_from (flat_map plain_kind_of lines) (plain_uncut lines (flat_map plain_named lines)) (plain_uncut lines (flat_map plain_maybe lines))

-- comments, blanks, empty lines and line ends aside, the text is such lines that say the puzzle: with a cell, with a piece, and with one
-- of these required
pub record IsPlainText (text : List ℕ) (p : PuzzleValue) : Type 0 where
  pub lines : List PlainLine
  pub plain : are_plain (lines_of text) ≡ true
  pub says : words_by_line (lines_of text) ≡ map plain_words lines
  pub within : ArePlainLines lines
  pub puzzle : p ≡ plain_puzzle_by lines
  pub some_cell : 0 < length p.region
  pub some_piece : 0 < length p.kinds
  pub required : needs_nothing p.kinds p.region p.maybe_cells ≡ false

-- each text of such lines is read as its puzzle
abbrev pub PlainTextsStay : Type 0
PlainTextsStay = (text : List ℕ) (p : PuzzleValue) → IsPlainText text p → puzzle_of text ≡ Ok p
