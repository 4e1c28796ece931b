use Rattle.std.proofs.Common.{◌-◌}
use Rattle.cover_problem.proofs.ChoiceLemmas.{Walks}
use Rattle.cover_problem.proofs.table.Table.choose.Given as goal

abbrev pub invariant-loop-next : goal.invariant-loop-next
invariant-loop-next g l = Walks (g.Self.Table.problem_value l.self) (g.Self.Table.covered_list l.self) l.item l.best l.least

abbrev pub decreases-loop-next : goal.decreases-loop-next
decreases-loop-next g l = (g.Self.Table.problem_value l.self).primary - l.item
