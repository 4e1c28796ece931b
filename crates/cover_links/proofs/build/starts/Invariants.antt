use Rattle.std.proofs.Common.{◌≡◌, ℕ, ◌≤◌, suc, length, get_or, vec_capacity}
use Rattle.cover_links.specs.Layout.{start_of}
use Rattle.cover_links.proofs.build.starts.Given as goal

abbrev pub invariant-loop-k : goal.invariant-loop-k
invariant-loop-k l = record {
  count : length l.starts.items ≡ suc l.k;
  each : (i : ℕ) → i ≤ l.k → get_or l.starts.items i 0 ≡ start_of l.problem i;
  next : l.next ≡ start_of l.problem l.k;
  room : vec_capacity l.starts ≡ vec_capacity l.initial.starts;
}
