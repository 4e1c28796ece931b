use Rattle.std.proofs.Common.{◌≡◌}
use Rattle.cover_problem.proofs.CoverEach.{Uncovers}
use Rattle.cover_problem.proofs.table.Table.uncover_last.Given as goal

abbrev pub invariant-loop : goal.invariant-loop
invariant-loop g l = record {
  same_problem : g.Self.Table.problem_value l.self ≡ g.Self.Table.problem_value l.fn.self;
  uncovers : Uncovers (g.Self.Table.covered_list l.fn.self) (g.Self.Table.covered_list l.self) l.count l.counter;
}
