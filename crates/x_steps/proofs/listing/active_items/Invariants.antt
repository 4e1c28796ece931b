use Rattle.std.proofs.Common.{◌-◌, length, map}
use Rattle.cover_problem.specs.Covering.{active, remaining}
use Rattle.x_steps.proofs.ListingLemmas.{ListsRows}
use Rattle.x_steps.proofs.listing.active_items.Given as goal

abbrev pub invariant-loop-next : goal.invariant-loop-next
invariant-loop-next g l =
    ListsRows (active (g.T.Table.problem_value l.table) (g.T.Table.covered_list l.table)) (remaining (g.T.Table.problem_value l.table) (g.T.Table.covered_list l.table))
    (map (λ row. (row.0, row.1.items)) l.rows.items) l.next

abbrev pub decreases-loop-next : goal.decreases-loop-next
decreases-loop-next g l = length (active (g.T.Table.problem_value l.table) (g.T.Table.covered_list l.table)) - length l.rows.items
