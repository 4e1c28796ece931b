use Rattle.std.proofs.Common.{◌≡◌, ◌-◌, ◌≤◌, ◌++◌, ◌∷◌, [], ℕ, List, length, take, get_or}
use Rattle.packed_rows.specs.Neighbours.{told_lists}
use Rattle.packed_rows.specs.Numbers.{numbers_of, IsRow}
use Rattle.packed_rows.proofs.NeighbourLemmas.{AreWords}
use Rattle.packed_rows.proofs.row.lists.filled.Given as goal

abbrev pub invariant-filling : goal.invariant-filling
invariant-filling l = record {
  row : IsRow l.bytes.items;
  before : l.before ≡ get_or ([] ∷ l.lists) l.place [];
  added : (ns : List ℕ) → numbers_of l.fn.bytes.items ≡ ns ++ told_lists (take l.fn.from l.lists) →
      numbers_of l.bytes.items ≡ ns ++ told_lists (take l.place l.lists);
  words : AreWords (take l.fn.from l.lists) → AreWords (take l.place l.lists);
  further : l.fn.from ≤ l.place;
  within : l.place ≤ length l.lists;
}

abbrev pub decreases-filling : goal.decreases-filling
decreases-filling l = length l.lists - l.place
