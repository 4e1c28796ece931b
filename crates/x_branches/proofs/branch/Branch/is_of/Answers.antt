use Rattle.std.proofs.Common.{refl}
use Rattle.x_steps.specs.Steps.{Fits}
use Rattle.x_branches.proofs.BranchLemmas.{branch_tested}
use Rattle.x_branches.proofs.branch.Branch.is_of.Goals as goal

pub returns : goal.returns
returns c =
    let low = c.if-not-is_of.ensures.0 refl in
    let high = c.if-not-is_of-2.ensures.0 refl in
    let first_fits : Fits c.args.problem.now c.first.result = rw c.first.ensures.position (c.first.ensures.fits c.args.problem.now low) in
    let end_fits : Fits c.args.problem.now c.end.result = rw c.end.ensures.position (c.end.ensures.fits c.args.problem.now high) in
    branch_tested _ _ _ _ c.first.ensures.position c.end.ensures.position _ low high (c.is_before.ensures c.args.problem.now first_fits end_fits)
