use Rattle.std.proofs.Common.{◌≡◌, take, map}
use Rattle.poly_cells.specs.Coordinates.{Coordinates}
use Rattle.poly_cells.specs.Points.{point_at, point, translated}
use Rattle.poly_cells.proofs.set.translated.Given as goal

abbrev pub invariant-loop-cell : goal.invariant-loop-cell
invariant-loop-cell l = map point l.moved.items ≡ map (λ (v : Coordinates). translated (point_at l.dx l.dy l.dz) (point v)) (take l.cell-index l.cells)
