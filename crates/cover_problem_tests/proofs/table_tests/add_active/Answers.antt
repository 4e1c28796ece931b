use Rattle.cover_problem.specs.Covering.{active}
use Rattle.cover_problem.proofs.WalkLemmas.{above_in}
use Rattle.cover_problem_tests.proofs.table_tests.add_active.Goals as goal

pub loop-init : goal.loop-init
loop-init g c = above_in 0 (active (g.T.Table.problem_value c.args.table.now) (g.T.Table.covered_list c.args.table.now)) c.first_item-next.result c.first_item-next.ensures

pub loop-preserved : goal.loop-preserved
loop-preserved g c = above_in c.in-Some.item (active (g.T.Table.problem_value c.args.table.now) (g.T.Table.covered_list c.args.table.now)) c.next_item-next.result c.next_item-next.ensures
