use Rattle.std.proofs.Common.{◌≡◌, map, take}
use Rattle.poly_cells.specs.Shapes.{moved, moved_back}
use Rattle.poly_place.proofs.images.all_led.Given as goal

-- the cells so far, moved
abbrev pub invariant-loop-cell : goal.invariant-loop-cell
invariant-loop-cell l = l.led.items ≡ map (λ v. moved l.to (moved_back l.back v)) (take l.cell-index l.cells)
