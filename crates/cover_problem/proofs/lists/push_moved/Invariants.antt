use Rattle.std.proofs.Common.{◌≡◌, ◌+◌, ◌≤◌, ◌++◌, map, take, length, vec_len, vec_capacity}
use Rattle.cover_problem.proofs.lists.push_moved.Given as goal

abbrev pub invariant-loop-end : goal.invariant-loop-end
invariant-loop-end l = record {
  pushed : l.ends.items ≡ l.fn.ends.items ++ map (λ e. l.start + e) (take l.end-index l.more);
  room : vec_len l.ends + length l.more ≤ vec_capacity l.ends + l.end-index;
}
