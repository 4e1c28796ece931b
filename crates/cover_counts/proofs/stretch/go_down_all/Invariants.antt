use Rattle.std.proofs.Common.{◌≡◌, take}
use Rattle.cover_problem.specs.Path.{covered_by}
use Rattle.cover_counts.specs.Search.{IsTableOf}
use Rattle.cover_counts.proofs.stretch.go_down_all.Given as goal

abbrev pub invariant-loop-option : goal.invariant-loop-option
invariant-loop-option g l = record {
  at : IsTableOf l.problem (g.T.Table.problem_value l.table) (g.T.Table.covered_list l.table);
  covered : g.T.Table.covered_list l.table ≡ covered_by l.problem (take l.option-index l.path);
}
