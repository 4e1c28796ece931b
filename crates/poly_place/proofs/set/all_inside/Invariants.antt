use Rattle.std.proofs.Common.{◌≡◌, map, take, true}
use Rattle.std.specs.List.{list_all}
use Rattle.poly_cells.specs.Shapes.{moved}
use Rattle.poly_place.specs.Tables.{has_bit}
use Rattle.poly_place.proofs.set.all_inside.Given as goal

-- the cells so far are inside
abbrev pub invariant-loop-cell : goal.invariant-loop-cell
invariant-loop-cell l = list_all (has_bit l.bits) (map (moved l.by) (take l.cell-index l.cells)) ≡ true
