use Rattle.std.proofs.Common.{◌≡◌, ◌+◌, ◌<◌, ◌≤◌, ℕ, length, slice_index}
use Rattle.polylab_engine.proofs.tally.add_each.Given as goal

-- the totals below the level have their counts, and those from it on are as they were
abbrev pub invariant-loop-level : goal.invariant-loop-level
invariant-loop-level l = record {
  levels : length l.totals ≡ length l.fn.totals;
  added : (k : ℕ) → k < l.level → k < length l.fn.totals → slice_index l.totals k ≡ slice_index l.fn.totals k + slice_index l.counts k;
  kept : (k : ℕ) → l.level ≤ k → slice_index l.totals k ≡ slice_index l.fn.totals k;
}
