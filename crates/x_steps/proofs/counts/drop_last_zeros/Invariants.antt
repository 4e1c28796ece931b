use Rattle.std.proofs.Common.{◌≡◌, vec_len}
use Rattle.x_steps.specs.Levels.{without_last_zeros}
use Rattle.x_steps.proofs.counts.drop_last_zeros.Given as goal

abbrev pub invariant-loop-counts : goal.invariant-loop-counts
invariant-loop-counts l = without_last_zeros l.counts.items ≡ without_last_zeros l.fn.counts.items

abbrev pub decreases-loop-counts : goal.decreases-loop-counts
decreases-loop-counts l = vec_len l.counts
