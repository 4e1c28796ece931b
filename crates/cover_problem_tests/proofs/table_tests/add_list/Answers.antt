use Rattle.cover_problem.specs.Covering.{list_of}
use Rattle.cover_problem.proofs.WalkLemmas.{above_in}
use Rattle.cover_problem_tests.proofs.table_tests.add_list.Goals as goal

pub loop-init : goal.loop-init
loop-init g c = above_in 0 (list_of (g.T.Table.problem_value c.args.table.now) (g.T.Table.covered_list c.args.table.now) c.args.item) c.first_option-next.result c.first_option-next.ensures

pub loop-preserved : goal.loop-preserved
loop-preserved g c = above_in c.in-Some.option (list_of (g.T.Table.problem_value c.args.table.now) (g.T.Table.covered_list c.args.table.now) c.args.item) c.next_option-next.result c.next_option-next.ensures
