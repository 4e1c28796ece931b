use Rattle.x_branches.proofs.CutLemmas.{cut_fits}
use Rattle.x_branches.proofs.cut.Cut.position.Goals as goal

pub returns-clause-fits : goal.returns-clause-fits
returns-clause-fits c = rw (← c.self.view_is) (cut_fits _ _ c.self.invariant)
