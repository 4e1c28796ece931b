use Rattle.x_branches.proofs.UntriedLemmas.{cut_tested}
use Rattle.x_steps.specs.Steps.{Fits}
use Rattle.x_branches.specs.Branch.{end_of}
use Rattle.x_branches.proofs.runner.untried.is_cut_inside.Goals as goal

pub returns : goal.returns
returns c p is_of fits =
    let end_fits : Fits p c.end.result = rw c.end.ensures.position (c.end.ensures.fits p is_of) in
    let test = rw c.end.ensures.position at (c.is_before.ensures p fits end_fits) in
    cut_tested p (end_of c.args.branch.now.hi) _ _ _ fits (c.end.ensures.fits p is_of) test
