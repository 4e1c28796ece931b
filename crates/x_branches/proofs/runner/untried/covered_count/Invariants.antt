use Rattle.std.proofs.Common.{◌≡◌, length, take}
use Rattle.cover_problem.specs.Path.{covered_by}
use Rattle.x_branches.proofs.runner.untried.covered_count.Given as goal

abbrev pub invariant-loop-option : goal.invariant-loop-option
invariant-loop-option l = l.count ≡ length (covered_by l.problem (take l.option-index l.path))
