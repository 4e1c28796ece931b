use Rattle.std.proofs.Common.{◌≡◌, ◌++◌, map, take}
use Rattle.poly_place.specs.Packings.{a_cell, thing_item}
use Rattle.poly_place.proofs.numbers.Numbers.push_cells.Given as goal

-- the items of the cells so far are added
abbrev pub invariant-loop-cell : goal.invariant-loop-cell
invariant-loop-cell l = l.option.items ≡ l.initial.option.items ++ map (thing_item l.self) (map a_cell (take l.cell-index l.cells))
