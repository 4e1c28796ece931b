use Rattle.std.proofs.Common.{take}
use Rattle.poly_cells.specs.Points.{point_at}
use Rattle.poly_cells.specs.Images.{StaysInside}
use Rattle.poly_cells.proofs.set.stay_inside.Given as goal

abbrev pub invariant-loop-cell : goal.invariant-loop-cell
invariant-loop-cell l = StaysInside (point_at l.dx l.dy l.dz) (take l.cell-index l.cells)
