use Rattle.std.proofs.Common.{◌≡◌, ◌+◌, ◌≤◌, ◌++◌, take, length, vec_len, vec_capacity}
use Rattle.cover_problem.proofs.lists.push_each.Given as goal

abbrev pub invariant-loop-number : goal.invariant-loop-number
invariant-loop-number l = record {
  pushed : l.flat.items ≡ l.fn.flat.items ++ take l.number-index l.list;
  room : vec_len l.flat + length l.list ≤ vec_capacity l.flat + l.number-index;
}
