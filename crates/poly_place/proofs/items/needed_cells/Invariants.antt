use Rattle.std.proofs.Common.{◌≡◌, filter, take}
use Rattle.poly_place.specs.Packings.{must_fill}
use Rattle.poly_place.proofs.items.needed_cells.Given as goal

-- the required cells so far
abbrev pub invariant-loop-cell : goal.invariant-loop-cell
invariant-loop-cell l = l.needed.items ≡ filter (must_fill l.puzzle) (take l.cell-index l.cells)
