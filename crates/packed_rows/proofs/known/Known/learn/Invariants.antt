use Rattle.std.proofs.Common.{◌≡◌, ◌++◌, length}
use Rattle.packed_rows.proofs.known.Known.learn.Given as goal

abbrev pub invariant-learning : goal.invariant-learning
invariant-learning l = l.fn.list ≡ l.self ++ l.left

abbrev pub decreases-learning : goal.decreases-learning
decreases-learning l = length l.left
