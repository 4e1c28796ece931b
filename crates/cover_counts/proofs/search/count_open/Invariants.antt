use Rattle.cover_counts.specs.Kept.{AreSoundSlots}
use Rattle.cover_counts.specs.Search.{IsTableOf, IsTaken, LeadsDown}
use Rattle.cover_counts.proofs.LoopLemmas.{weight}
use Rattle.cover_counts.proofs.search.count_open.Given as goal

abbrev pub invariant-loop-top : goal.invariant-loop-top
invariant-loop-top g l = record {
  at : IsTableOf l.problem (g.T.Table.problem_value l.table) (g.T.Table.covered_list l.table);
  kept : AreSoundSlots l.problem l.cache.places.items;
  lead : LeadsDown l.problem (g.T.Table.covered_list l.initial.table) l.parents.items (g.T.Table.covered_list l.table);
  top : IsTaken l.problem (g.T.Table.covered_list l.table) l.top;
}

abbrev pub decreases-loop-top : goal.decreases-loop-top
decreases-loop-top g l = weight l.problem (g.T.Table.covered_list l.initial.table) l.parents.items l.top
