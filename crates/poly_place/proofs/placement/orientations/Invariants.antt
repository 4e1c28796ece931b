use Rattle.std.proofs.Common.{◌≡◌, map, take, vec_items}
use Rattle.poly_cells.specs.Shapes.{turned}
use Rattle.poly_place.specs.Placements.{turns_by}
use Rattle.poly_place.proofs.placement.orientations.Given as goal

-- the turned forms by the symmetries so far
abbrev pub invariant-loop-r : goal.invariant-loop-r
invariant-loop-r l = map vec_items l.turns.items ≡ map (λ n. turned n l.piece) (take l.r (turns_by l.group))
