use Rattle.std.proofs.Common.{◌≡◌, ◌≤◌, ◌-◌, length, take, replicate}
use Rattle.x_branches.proofs.kept.zeros_of.Given as goal

abbrev pub invariant-counting : goal.invariant-counting
invariant-counting l = (l.zeros ≤ length l.list) × (take l.zeros l.list ≡ replicate l.zeros 0)

abbrev pub decreases-counting : goal.decreases-counting
decreases-counting l = length l.list - l.zeros
