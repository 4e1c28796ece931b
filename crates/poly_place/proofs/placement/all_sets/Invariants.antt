use Rattle.std.proofs.Common.{◌≡◌, map, take, vec_items}
use Rattle.std.specs.List.{flat_map}
use Rattle.poly_place.specs.Placements.{at_cells}
use Rattle.poly_place.specs.Tables.{has_bit}
use Rattle.poly_place.proofs.placement.all_sets.Given as goal

-- the sets of the turned forms so far
abbrev pub invariant-loop-turned : goal.invariant-loop-turned
invariant-loop-turned l = map vec_items l.sets.items ≡ flat_map (at_cells (has_bit l.bits) l.cells) (map vec_items (take l.turned-index l.turns))
