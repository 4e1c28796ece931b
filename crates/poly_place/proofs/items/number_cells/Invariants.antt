use Rattle.std.proofs.Common.{◌≡◌, ◌+◌, drop, length}
use Rattle.poly_place.specs.Compiled.{numbered}
use Rattle.poly_place.proofs.items.number_cells.Given as goal

-- numbering the cells that are left gives what numbering all of them gives
abbrev pub invariant-loop-cell : goal.invariant-loop-cell
invariant-loop-cell l = record {
  rest : numbered l.numbers (l.number + 1) (drop l.cell-index l.cells) ≡ numbered l.initial.numbers (l.last + 1) l.cells;
  count : l.number ≡ l.last + l.cell-index;
  long : length l.numbers ≡ 32768;
}
