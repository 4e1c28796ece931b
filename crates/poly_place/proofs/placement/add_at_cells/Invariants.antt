use Rattle.std.proofs.Common.{◌≡◌, ◌++◌, map, take, vec_items}
use Rattle.poly_place.specs.Placements.{at_cells}
use Rattle.poly_place.specs.Tables.{has_bit}
use Rattle.poly_place.proofs.placement.add_at_cells.Given as goal

-- the sets at the cells so far are added
abbrev pub invariant-loop-cell : goal.invariant-loop-cell
invariant-loop-cell l = map vec_items l.sets.items ≡ map vec_items l.initial.sets.items ++ at_cells (has_bit l.bits) (take l.cell-index l.cells) l.piece
