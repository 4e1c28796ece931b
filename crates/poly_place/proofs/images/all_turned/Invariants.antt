use Rattle.std.proofs.Common.{◌≡◌, map, take}
use Rattle.poly_cells.specs.Turns.{turn}
use Rattle.poly_place.proofs.images.all_turned.Given as goal

-- the cells so far, turned
abbrev pub invariant-loop-cell : goal.invariant-loop-cell
invariant-loop-cell l = l.turned.items ≡ map (turn l.symmetry) (take l.cell-index l.cells)
