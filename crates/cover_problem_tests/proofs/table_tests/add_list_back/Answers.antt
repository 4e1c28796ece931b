use Rattle.cover_problem.specs.Covering.{list_of}
use Rattle.cover_problem.proofs.WalkLemmas.{below_in, last_in}
use Rattle.cover_problem_tests.proofs.table_tests.add_list_back.Goals as goal

pub loop-init : goal.loop-init
loop-init g c = last_in (list_of (g.T.Table.problem_value c.args.table.now) (g.T.Table.covered_list c.args.table.now) c.args.item) c.last_option-next.result c.last_option-next.ensures

pub loop-preserved : goal.loop-preserved
loop-preserved g c = below_in c.in-Some.option (list_of (g.T.Table.problem_value c.args.table.now) (g.T.Table.covered_list c.args.table.now) c.args.item) c.prev_option-next.result c.prev_option-next.ensures
