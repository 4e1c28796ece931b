use Rattle.std.proofs.Common.{◌≡◌, ◌++◌, drop}
use Rattle.part_sums.specs.Answers.{levels_sum}
use Rattle.part_sums.proofs.sum.levels_sum.Given as goal

-- the sums so far and those of the levels left are all
abbrev pub invariant-loop-level : goal.invariant-loop-level
invariant-loop-level l = l.levels.items ++ levels_sum (drop l.level l.a) (drop l.level l.b) ≡ levels_sum l.a l.b
