use Rattle.std.proofs.Common.{◌≡◌, ◌++◌, take, drop}
use Rattle.x_branches.proofs.runner.posting.put.Given as goal

abbrev pub invariant-loop-level : goal.invariant-loop-level
invariant-loop-level l = l.counts ≡ take l.level l.levels ++ drop l.level l.fn.counts
