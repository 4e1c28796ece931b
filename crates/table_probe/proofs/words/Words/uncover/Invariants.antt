use Rattle.std.proofs.Common.{length}
use Rattle.cover_problem.specs.Covering.{list_of}
use Rattle.table_probe.specs.Words.{HasWords}
use Rattle.table_probe.proofs.WalkLemmas.{ahead, IsNextIn}
use Rattle.table_probe.proofs.words.Words.uncover.Given as goal

abbrev pub invariant-loop-next : goal.invariant-loop-next
invariant-loop-next g l = record {
  words : HasWords l.problem l.self;
  next : IsNextIn (list_of (g.T.Table.problem_value l.table) (g.T.Table.covered_list l.table) l.item) l.next;
}

abbrev pub decreases-loop-next : goal.decreases-loop-next
decreases-loop-next g l = ahead (length (g.T.Table.problem_value l.table).options) l.next
