-- How a packing is shown in layers of text: a line for each y, in it a word for each z, and in that a symbol for each x, all over
-- the bounding box of the region.
--
-- Example: the piece A at 0 0 0 and 1 0 0 in the region 0 0 0, 1 0 0, 2 0 0, whose last cell may stay empty, is the line `AA_`. Three
-- copies of a cell A that are shown by A and B in turn are the line `ABA` (proofs/LayerExamples.antt).
use Rattle.std.specs.Prelude.{ℕ, ◌+◌, ◌-◌, ◌%◌, ◌<◌, ◌≡◌, ◌==◌, max, Bool, false, ◌&&◌, Option, Some, None, filter, if◌then◌else◌, List, [], ◌∷◌, ◌++◌, map, find, option_map, unwrap_or, length, slice_index, String, Result}
use Rattle.std.specs.List.{range_with_len}
use Rattle.std.specs.declared.alloc.Global.{Global}
use Rattle.text_lines.specs.Writing.{line_text, text_of}
use Rattle.std.specs.Ordering.{is_lt}
use Rattle.poly_cells.specs.Coordinates.{Coordinates, coordinates, coordinates_cmp, IsInGrid}
use Rattle.poly_cells.specs.Shapes.{corner}
use Rattle.poly_cells.specs.CellTests.{has_cell}
use Rattle.poly_place.specs.Answers.{AddsText}
use Rattle.poly_place.specs.Packings.{ChoiceValue, first_cell}
use Rattle.poly_place.specs.Chosen.{PackingValue}
use Rattle.poly_place.specs.Tables.{grid_cells, bit_index}

-- the greatest of a coordinate, and 0 where there is no cell
abbrev pub greatest : (Coordinates → ℕ) → List Coordinates → ℕ
greatest part [] = 0
greatest part (v ∷ vs) = max (part v) (greatest part vs)

-- the greatest x, the greatest y and the greatest z
abbrev pub far_corner : List Coordinates → Coordinates
far_corner vs = coordinates (greatest (λ v. v.x) vs) (greatest (λ v. v.y) vs) (greatest (λ v. v.z) vs)

-- the numbers from a to b
abbrev pub from_to : ℕ → ℕ → List ℕ
from_to a b = range_with_len a (b + 1 - a)

-- ---- symbols of copies

-- the symbols begin with the name of the piece
abbrev pub begins_with : ℕ → List ℕ → Bool
begins_with name [] = false
begins_with name (n ∷ ns) = n == name

-- the second is a copy of the same piece, and its least cell comes before that of the first
abbrev pub is_earlier_copy : ChoiceValue → ChoiceValue → Bool
is_earlier_copy c d = (d.name == c.name) && is_lt (coordinates_cmp (first_cell d.cells) (first_cell c.cells))

-- the rank of a copy: how many copies of its piece come before it
abbrev pub copy_rank : List ChoiceValue → ChoiceValue → ℕ
copy_rank cs c = length (filter (is_earlier_copy c) cs)

-- the symbol number k, modulo how many there are; or the name, where there are none
abbrev pub in_turn : Option (List ℕ) → ℕ → ℕ → ℕ
in_turn None k name = name
in_turn (Some word) k name = slice_index word (k % length word)

-- what shows a piece or a copy of it: its name; or of the symbols of its piece that whose number is the rank of the copy
abbrev pub shown_symbol : PackingValue → ChoiceValue → ℕ
shown_symbol q c = in_turn (find (begins_with c.name) q.symbols) (copy_rank q.placements c) c.name

-- ---- layers

-- what shows the piece that has the cell, or the cell where none has it
abbrev pub symbol_over : (ChoiceValue → ℕ) → List ChoiceValue → (Coordinates → ℕ) → Coordinates → ℕ
symbol_over shown cs ground v = unwrap_or (option_map shown (find (λ c. has_cell c.cells v) cs)) (ground v)

-- what shows a cell that no piece has: `_` in the region, and `.` outside
abbrev pub ground : List Coordinates → Coordinates → ℕ
ground region v = if has_cell region v then 95 else 46

-- what shows a cell
abbrev pub symbol_at : PackingValue → Coordinates → ℕ
symbol_at q v = symbol_over (shown_symbol q) q.placements (ground q.region) v

-- the symbols of the cells with this y and z, in the box from one corner to the other
abbrev pub row_symbols : (Coordinates → ℕ) → Coordinates → Coordinates → ℕ → ℕ → List ℕ
row_symbols symbol low high y z = map (λ x. symbol (coordinates x y z)) (from_to low.x high.x)

-- the words of the line for y
abbrev pub layer_words : (Coordinates → ℕ) → Coordinates → Coordinates → ℕ → List (List ℕ)
layer_words symbol low high y = map (row_symbols symbol low high y) (from_to low.z high.z)

-- the line for y
abbrev pub layer_line : (Coordinates → ℕ) → Coordinates → Coordinates → ℕ → List ℕ
layer_line symbol low high y = line_text (layer_words symbol low high y)

-- the lines for each y
abbrev pub layer_lines : (Coordinates → ℕ) → Coordinates → Coordinates → List (List (List ℕ))
layer_lines symbol low high = map (layer_words symbol low high) (from_to low.y high.y)

-- the layers
unfoldable pub layers : PackingValue → List ℕ
layers q = text_of (layer_lines (symbol_at q) (corner q.region) (far_corner q.region))

-- ---- a table of symbols

-- the table shows each cell by its symbol, which is an ASCII byte
pub record AreSymbols (symbol : Coordinates → ℕ) (table : List ℕ) : Type 0 where
  pub long : length table ≡ grid_cells
  pub shows : (v : Coordinates) → IsInGrid v → slice_index table (bit_index v) ≡ symbol v
  pub ascii : (i : ℕ) → slice_index table i < 128

-- the symbols, once these cells are shown by one
abbrev pub painted : (Coordinates → ℕ) → List Coordinates → ℕ → Coordinates → ℕ
painted symbol cells b v = if has_cell cells v then b else symbol v

-- whatever symbols the table shows, the call adds what is shown of them to the text, unless it has an error
abbrev pub Shows : {X E : Type 0} → Result X E → String Global → String Global → List ℕ → ((Coordinates → ℕ) → List ℕ) → Type 0
Shows result old new table shown = (symbol : Coordinates → ℕ) → AreSymbols symbol table → AddsText result old new (shown symbol)

-- whatever symbols the table shows, it shows them with these cells painted
abbrev pub Paints : List ℕ → List ℕ → List Coordinates → ℕ → Type 0
Paints old new cells b = (symbol : Coordinates → ℕ) → AreSymbols symbol old → AreSymbols (painted symbol cells b) new

-- a text with a space behind it, where one is due
abbrev pub with_gap : Bool → List ℕ → List ℕ
with_gap due text = if due then text ++ 32 ∷ [] else text
