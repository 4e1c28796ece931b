use Rattle.std.proofs.Common.{◌≡◌, ◌++◌, take, drop}
use Rattle.cover_problem.specs.Coverable.{CanCover}
use Rattle.cover_bits.proofs.table.BitTableTable.cover_each.Given as goal

abbrev pub invariant-loop-item : goal.invariant-loop-item
invariant-loop-item l = record {
  same_problem : l.self.problem ≡ l.fn.self.problem;
  covered : l.self.covered ≡ l.fn.self.covered ++ take l.item-index l.items;
  rest : CanCover l.self.problem l.self.covered (drop l.item-index l.items);
}
