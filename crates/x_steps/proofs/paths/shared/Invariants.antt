use Rattle.std.proofs.Common.{◌≡◌, ◌≤◌, ◌-◌, length, take}
use Rattle.x_steps.proofs.paths.shared.Given as goal

abbrev pub invariant-loop-level : goal.invariant-loop-level
invariant-loop-level l = (l.level ≤ length l.one) × (l.level ≤ length l.other) × (take l.level l.one ≡ take l.level l.other)

abbrev pub decreases-loop-level : goal.decreases-loop-level
decreases-loop-level l = length l.one - l.level
