use Rattle.std.proofs.Common.{◌≡◌, ◌++◌, take, drop}
use Rattle.cover_problem.specs.Coverable.{CanCover}
use Rattle.cover_problem.proofs.table.Table.cover_each.Given as goal

abbrev pub invariant-loop-item : goal.invariant-loop-item
invariant-loop-item g l = record {
  same_problem : g.Self.Table.problem_value l.self ≡ g.Self.Table.problem_value l.fn.self;
  covered : g.Self.Table.covered_list l.self ≡ g.Self.Table.covered_list l.fn.self ++ take l.item-index l.items;
  rest : CanCover (g.Self.Table.problem_value l.self) (g.Self.Table.covered_list l.self) (drop l.item-index l.items);
}
