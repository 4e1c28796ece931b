use Rattle.std.proofs.Common.{map}
use Rattle.x_steps.proofs.SecondLemmas.{ListsSecond}
use Rattle.x_steps.proofs.listing.secondary_items.Given as goal

abbrev pub invariant-loop-before : goal.invariant-loop-before
invariant-loop-before g l = ListsSecond l.problem (g.T.Table.covered_list l.table) l.before (map (λ row. (row.0, row.1.items)) l.rows.items)
