use Rattle.x_branches.proofs.LevelLemmas.{AreListed}
use Rattle.x_branches.proofs.runner.Runner.untried_by_level.Given as goal

abbrev pub invariant-listing : goal.invariant-listing
invariant-listing g l = AreListed l.self l.level l.covered l.lists
