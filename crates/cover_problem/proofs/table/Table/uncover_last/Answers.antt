use Rattle.std.proofs.Common.{◌∙◌}
use Rattle.cover_problem.proofs.CoverEach.{uncovers_more}
use Rattle.cover_problem.proofs.table.Table.uncover_last.Goals as goal

pub loop-preserved : goal.loop-preserved
loop-preserved g c = record {
  same_problem = c.uncover.ensures.same_problem ∙ c.loop.invariant.same_problem;
  uncovers = uncovers_more _ _ _ _ _ _ c.loop.invariant.uncovers c.loop-test.true c.uncover.ensures.covered;
}
