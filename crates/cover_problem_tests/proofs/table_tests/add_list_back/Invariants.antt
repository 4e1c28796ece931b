use Rattle.std.proofs.Common.{◌≡◌, true, IfSome}
use Rattle.shared_words.specs.Lists.{has}
use Rattle.cover_problem.specs.Covering.{list_of}
use Rattle.cover_problem_tests.proofs.table_tests.add_list_back.Given as goal

abbrev pub invariant-loop : goal.invariant-loop
invariant-loop g l = IfSome l.next (λ k. has (list_of (g.T.Table.problem_value l.table) (g.T.Table.covered_list l.table) l.item) k ≡ true)
