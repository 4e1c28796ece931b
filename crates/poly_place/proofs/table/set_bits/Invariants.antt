use Rattle.std.proofs.Common.{List, ◌++◌, take}
use Rattle.poly_cells.specs.Coordinates.{Coordinates}
use Rattle.poly_place.specs.Tables.{IsCellTable}
use Rattle.poly_place.proofs.table.set_bits.Given as goal

-- the table has the cells so far too
abbrev pub invariant-loop-cell : goal.invariant-loop-cell
invariant-loop-cell l = (region : List Coordinates) → IsCellTable region l.initial.bits → IsCellTable (region ++ take l.cell-index l.cells) l.bits
