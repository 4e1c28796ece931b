use Rattle.std.proofs.Common.{◌-◌, length, filter, nat_lt}
use Rattle.cover_problem.specs.Covering.{list_of}
use Rattle.x_steps.proofs.ListingLemmas.{Lists}
use Rattle.x_branches.proofs.runner.untried.options_above.Given as goal

abbrev pub invariant-loop-next : goal.invariant-loop-next
invariant-loop-next g l = Lists (filter (λ k. nat_lt l.option k) (list_of (g.T.Table.problem_value l.table) (g.T.Table.covered_list l.table) l.item)) l.options.items l.next

abbrev pub decreases-loop-next : goal.decreases-loop-next
decreases-loop-next g l = length (filter (λ k. nat_lt l.option k) (list_of (g.T.Table.problem_value l.table) (g.T.Table.covered_list l.table) l.item)) - length l.options.items
