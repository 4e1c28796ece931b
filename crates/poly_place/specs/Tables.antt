-- A region as a table: for each cell within the limits a bit that tells whether the region has it.
use Rattle.std.specs.Prelude.{◌≡◌, ℕ, ◌+◌, ◌*◌, Bool, false, ◌&&◌, nat_le, List, ◌++◌, length, slice_index_or}
use Rattle.poly_cells.specs.Coordinates.{Coordinates}
use Rattle.poly_cells.specs.CellTests.{has_cell}

-- how many cells there are within the limits: 32 for each coordinate
abbrev pub grid_cells : ℕ
grid_cells = 32768

-- the place of a cell's bit
abbrev pub bit_index : Coordinates → ℕ
bit_index c = 1024 * c.x + 32 * c.y + c.z

-- the cell is within the limits, and its bit is set
abbrev pub has_bit : List Bool → Coordinates → Bool
has_bit bits c = nat_le c.x 31 && (nat_le c.y 31 && (nat_le c.z 31 && slice_index_or bits (bit_index c) false))

-- the table has exactly the cells of the region
pub record IsCellTable (region : List Coordinates) (bits : List Bool) : Type 0 where
  pub long : length bits ≡ grid_cells
  pub same : (c : Coordinates) → has_bit bits c ≡ has_cell region c

-- whatever region a table has, these cells join it
abbrev pub AddsCells : List Bool → List Bool → List Coordinates → Type 0
AddsCells old new cells = (region : List Coordinates) → IsCellTable region old → IsCellTable (region ++ cells) new
