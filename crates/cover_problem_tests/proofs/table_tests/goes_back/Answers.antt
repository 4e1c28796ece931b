use Rattle.std.proofs.Common.{[]}
use Rattle.cover_problem_tests.proofs.table_tests.goes_back.Goals as goal

pub uncover-requires : goal.uncover-requires
uncover-requires c = ([], c.back_to_a.ensures.covered)
