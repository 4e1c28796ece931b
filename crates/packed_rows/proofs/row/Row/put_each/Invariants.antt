use Rattle.std.proofs.Common.{◌≡◌, ◌-◌, ◌≤◌, ◌++◌, length, take}
use Rattle.packed_rows.specs.Neighbours.{told_lists}
use Rattle.packed_rows.proofs.NeighbourLemmas.{AreWords}
use Rattle.packed_rows.proofs.row.Row.put_each.Given as goal

abbrev pub invariant-putting : goal.invariant-putting
invariant-putting l = record {
  added : l.self ≡ l.fn.self ++ told_lists (take l.place l.lists);
  words : AreWords (take l.place l.lists);
  within : l.place ≤ length l.lists;
}

abbrev pub decreases-putting : goal.decreases-putting
decreases-putting l = length l.lists - l.place
