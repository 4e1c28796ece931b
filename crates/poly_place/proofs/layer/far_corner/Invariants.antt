use Rattle.std.proofs.Common.{◌≡◌, take}
use Rattle.poly_cells.specs.Coordinates.{coordinates, IsInGrid}
use Rattle.poly_place.specs.Layers.{far_corner}
use Rattle.poly_place.proofs.layer.far_corner.Given as goal

-- the corner of the cells so far
abbrev pub invariant-loop-cell : goal.invariant-loop-cell
invariant-loop-cell l = record {
  corner : coordinates l.x l.y l.z ≡ far_corner (take l.cell-index l.cells);
  here : IsInGrid (coordinates l.x l.y l.z);
}
