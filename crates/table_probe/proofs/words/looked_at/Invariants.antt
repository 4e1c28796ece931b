use Rattle.cover_problem.specs.Covering.{active}
use Rattle.table_probe.proofs.WalkLemmas.{ahead, IsNextIn}
use Rattle.table_probe.proofs.words.looked_at.Given as goal

abbrev pub invariant-loop-next : goal.invariant-loop-next
invariant-loop-next g l = IsNextIn (active (g.T.Table.problem_value l.table) (g.T.Table.covered_list l.table)) l.next

abbrev pub decreases-loop-next : goal.decreases-loop-next
decreases-loop-next g l = ahead (g.T.Table.problem_value l.table).primary l.next
