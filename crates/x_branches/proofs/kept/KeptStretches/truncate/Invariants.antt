use Rattle.std.proofs.Common.{◌≡◌, length, take}
use Rattle.x_branches.proofs.kept.KeptStretches.truncate.Given as goal

abbrev pub invariant-taking : goal.invariant-taking
invariant-taking l = take l.count l.self ≡ take l.count l.fn.self

abbrev pub decreases-taking : goal.decreases-taking
decreases-taking l = length l.self
