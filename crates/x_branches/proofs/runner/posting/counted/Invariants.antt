use Rattle.std.proofs.Common.{◌≡◌, ◌≤◌, length, take}
use Rattle.x_steps.specs.Levels.{without_last_zeros}
use Rattle.x_branches.proofs.runner.posting.counted.Given as goal

abbrev pub invariant-loop-count : goal.invariant-loop-count
invariant-loop-count l = record { within : l.count ≤ length l.counts; same : without_last_zeros (take l.count l.counts) ≡ without_last_zeros l.counts }

abbrev pub decreases-loop-count : goal.decreases-loop-count
decreases-loop-count l = l.count
