use Rattle.std.proofs.Common.{◌≡◌, take}
use Rattle.poly_cells.specs.Coordinates.{coordinates, IsInGrid}
use Rattle.poly_cells.specs.Shapes.{corner, AllInGrid}
use Rattle.poly_cells.proofs.set.corner_of.Given as goal

abbrev pub invariant-loop-cell : goal.invariant-loop-cell
invariant-loop-cell l = record {
  least : coordinates l.x l.y l.z ≡ corner (take l.cell-index l.cells);
  limits : AllInGrid (take l.cell-index l.cells);
  here : IsInGrid (coordinates l.x l.y l.z);
}
