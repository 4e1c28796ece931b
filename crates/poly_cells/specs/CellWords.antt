-- Words for cells: three symbols of `0-9a-v`, for x, y and z.
--
-- Example: `0av` is the word of the cell 0 10 31, and that cell is what it names; `0a`, `0aw` and `0A0` name no cell.
-- proofs/CellWordExamples.antt computes it.
use Rattle.std.specs.Prelude.{ℕ, ◌+◌, ◌-◌, nat_lt, nat_le, ◌&&◌, List, [], ◌∷◌, Option, Some, None, if◌then◌else◌}
use Rattle.poly_cells.specs.Coordinates.{Coordinates, coordinates}

-- *spelling*

-- one of `0-9a-v`, for 0 to 31
abbrev pub symbol : ℕ → ℕ
symbol n = if nat_lt n 10 then 48 + n else 87 + n

-- the word of a cell
abbrev pub cell_word : Coordinates → List ℕ
cell_word c = symbol c.x ∷ symbol c.y ∷ symbol c.z ∷ []

-- *reading*

-- what a symbol of `0-9a-v` stands for
abbrev pub coordinate : ℕ → Option ℕ
coordinate b = if nat_le 48 b && nat_le b 57 then Some (b - 48) else (if nat_le 97 b && nat_le b 118 then Some (b - 87) else None)

-- the cell with these coordinates, where there are all three
abbrev pub cell_at : Option ℕ → Option ℕ → Option ℕ → Option Coordinates
cell_at (Some x) (Some y) (Some z) = Some (coordinates x y z)
cell_at x y z = None

-- the cell that a word names: three symbols, for x, y and z
abbrev pub cell_of : List ℕ → Option Coordinates
cell_of (x ∷ y ∷ z ∷ []) = cell_at (coordinate x) (coordinate y) (coordinate z)
cell_of word = None
