use Rattle.std.proofs.Common.{◌≡◌, ◌≤◌, ◌+◌, map, take, vec_items}
use Rattle.cover_problem.specs.declared.limits.TheConstants.{MOST_ENTRIES}
use Rattle.poly_place.specs.Compiled.{leaving_entries}
use Rattle.poly_place.proofs.room.entries_beside.Given as goal

-- the entries for what is left out so far are added
abbrev pub invariant-loop-left : goal.invariant-loop-left
invariant-loop-left l = record {
  sum : l.entries ≡ l.fn.entries + leaving_entries (map vec_items (take l.left-index l.lefts));
  low : l.entries ≤ MOST_ENTRIES;
}
