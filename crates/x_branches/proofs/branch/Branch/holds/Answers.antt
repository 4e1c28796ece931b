use Rattle.std.proofs.Common.{refl}
use Rattle.x_steps.specs.Steps.{Fits}
use Rattle.x_branches.specs.Branch.{first_of, end_of}
use Rattle.x_branches.proofs.BranchLemmas.{within_from, within_passes, not_begun}
use Rattle.x_branches.proofs.branch.Branch.holds.Goals as goal

pub returns-then-is_before-clause-outside : goal.returns-then-is_before-clause-outside
returns-then-is_before-clause-outside c = λ _ within.
    let p = c.args.problem.now in
    let branch = c.if-not-is_of.ensures.0 refl in
    let first_fits : Fits p c.first.result = rw c.first.ensures.position (c.first.ensures.fits p branch.low) in
    let fits : Fits p c.of-position.result = rw c.of-position.ensures c.requires in
    not_begun p c.args.self.now _ (end_of c.args.self.now.hi) c.first.ensures.position refl _ _ c.of-position.ensures (c.if-is_before.ensures p fits first_fits) within

pub returns-clause-within : goal.returns-clause-within
returns-clause-within c = λ test.
    let p = c.args.problem.now in
    let branch = c.if-not-is_of.ensures.0 refl in
    let first_fits : Fits p c.first.result = rw c.first.ensures.position (c.first.ensures.fits p branch.low) in
    let end_fits : Fits p c.end.result = rw c.end.ensures.position (c.end.ensures.fits p branch.high) in
    let fits : Fits p c.of-position.result = rw c.of-position.ensures c.requires in
    within_from _ _ _ _ c.first.ensures.position c.end.ensures.position _ _ _ c.of-position.ensures (c.if-is_before.ensures p fits first_fits) (c.is_before-2.ensures p end_fits fits) test

pub returns-clause-outside : goal.returns-clause-outside
returns-clause-outside c = λ _ within.
    let p = c.args.problem.now in
    let branch = c.if-not-is_of.ensures.0 refl in
    let end_fits : Fits p c.end.result = rw c.end.ensures.position (c.end.ensures.fits p branch.high) in
    let fits : Fits p c.of-position.result = rw c.of-position.ensures c.requires in
    within_passes _ _ (first_of c.args.self.now.lo) _ refl c.end.ensures.position _ _ _ c.of-position.ensures (c.is_before-2.ensures p end_fits fits) within
