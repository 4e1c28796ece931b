use Rattle.x_branches.specs.Branch.{end_of}
use Rattle.x_branches.proofs.FirstLemmas.{IsSought}
use Rattle.x_branches.proofs.runner.Runner.first_untried.Given as goal

abbrev pub invariant-seeking : goal.invariant-seeking
invariant-seeking g l = IsSought l.self.problem (end_of l.self.branch.hi) l.self.position l.level l.covered
