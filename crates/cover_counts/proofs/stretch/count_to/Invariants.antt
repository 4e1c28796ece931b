use Rattle.std.proofs.Common.{◌≤◌, ◌-◌}
use Rattle.x_steps.specs.StateView.{state_value}
use Rattle.x_steps.specs.Rank.{rank}
use Rattle.x_branches.specs.RunOrder.{ComesBefore}
use Rattle.cover_counts.specs.Kept.{AreSoundSlots}
use Rattle.cover_counts.specs.Stretch.{Counts, IsTableAt}
use Rattle.cover_counts.proofs.stretch.count_to.Given as goal

abbrev pub invariant-loop-table : goal.invariant-loop-table
invariant-loop-table g l = record {
  stands : IsTableAt l.problem (g.T.Table.problem_value l.table) (g.T.Table.covered_list l.table) (state_value l.state);
  kept : AreSoundSlots l.problem l.cache.places.items;
  up : rank l.problem (state_value l.initial.state) ≤ rank l.problem (state_value l.state);
  not_past : ComesBefore l.problem (state_value l.end) (state_value l.state) → ⊥;
  counts : Counts l.problem (state_value l.initial.state) (state_value l.state) l.initial.sum l.sum;
}

abbrev pub decreases-loop-table : goal.decreases-loop-table
decreases-loop-table g l = rank l.problem (state_value l.end) - rank l.problem (state_value l.state)
