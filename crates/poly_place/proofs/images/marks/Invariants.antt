use Rattle.std.proofs.Common.{◌≡◌, map, take}
use Rattle.poly_cells.specs.CellTests.{has_cell}
use Rattle.poly_place.proofs.images.marks.Given as goal

-- the marks so far
abbrev pub invariant-loop-cell : goal.invariant-loop-cell
invariant-loop-cell l = l.marks.items ≡ map (has_cell l.others) (take l.cell-index l.cells)
