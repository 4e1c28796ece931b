use Rattle.std.proofs.Common.{◌≡◌, ◌++◌, map, take}
use Rattle.std.specs.String.{string_bytes}
use Rattle.poly_cells.specs.CellWords.{cell_word}
use Rattle.poly_place.proofs.items.add_cell_names.Given as goal

-- the names of the cells so far are added
abbrev pub invariant-loop-cell : goal.invariant-loop-cell
invariant-loop-cell l = map string_bytes l.names.items ≡ map string_bytes l.initial.names.items ++ map cell_word (take l.cell-index l.cells)
