use Rattle.std.proofs.Common.{◌≡◌, map, take}
use Rattle.poly_cells.specs.Shapes.{moved}
use Rattle.poly_place.proofs.set.all_moved.Given as goal

-- the cells so far, moved
abbrev pub invariant-loop-cell : goal.invariant-loop-cell
invariant-loop-cell l = l.there.items ≡ map (moved l.by) (take l.cell-index l.cells)
