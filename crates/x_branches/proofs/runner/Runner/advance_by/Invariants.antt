use Rattle.x_branches.proofs.AdvanceLemmas.{Advances, to_go}
use Rattle.x_branches.proofs.runner.Runner.advance_by.Given as goal

abbrev pub invariant-walking : goal.invariant-walking
invariant-walking g l = Advances l.most l.fn.self l.self l.left l.walk

abbrev pub decreases-walking : goal.decreases-walking
decreases-walking g l = to_go l.left l.walk
