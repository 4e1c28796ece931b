use Rattle.std.proofs.Common.{◌≡◌, true, IfSome}
use Rattle.shared_words.specs.Lists.{has}
use Rattle.cover_problem.specs.Covering.{active}
use Rattle.cover_problem_tests.proofs.table_tests.add_active.Given as goal

abbrev pub invariant-loop : goal.invariant-loop
invariant-loop g l = IfSome l.next (λ k. has (active (g.T.Table.problem_value l.table) (g.T.Table.covered_list l.table)) k ≡ true)
