use Rattle.std.proofs.Common.{◌≡◌, ◌≤◌, ◌+◌, take}
use Rattle.cover_problem.specs.declared.limits.TheConstants.{MOST_ENTRIES}
use Rattle.poly_place.specs.Compiled.{entries_of}
use Rattle.poly_place.proofs.room.entries_with.Given as goal

-- the entries of the choices so far are added
abbrev pub invariant-loop-choice : goal.invariant-loop-choice
invariant-loop-choice l = record {
  sum : l.entries ≡ l.fn.entries + entries_of l.numbers (take l.choice-index l.list);
  low : l.entries ≤ MOST_ENTRIES;
}
