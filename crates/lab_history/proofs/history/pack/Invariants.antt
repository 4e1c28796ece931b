use Rattle.std.proofs.Common.{◌≡◌, ◌≤◌, ◌++◌, map, vec_len, vec_capacity}
use Rattle.lab_history.specs.EntryCode.{entry_of, AreEntryCodes}
use Rattle.lab_history.proofs.history.pack.Given as goal

abbrev pub invariant-packing : goal.invariant-packing
invariant-packing l = record {
  all : map entry_of l.rows.rows ++ l.last.items ≡ map entry_of l.fn.rows.rows ++ l.fn.last.items;
  fewer : vec_len l.last ≤ vec_len l.fn.last;
  capacity : vec_capacity l.fn.last ≤ vec_capacity l.last;
  codes : AreEntryCodes l.fn.rows → AreEntryCodes l.rows;
}

abbrev pub decreases-packing : goal.decreases-packing
decreases-packing l = vec_len l.last
