use Rattle.std.proofs.Common.{refl}
use Rattle.x_branches.proofs.MarkLemmas.{started}
use Rattle.x_branches.proofs.runner.Runner.new.Goals as goal

pub invariant_of-result : goal.invariant_of-result
invariant_of-result g c =
    let in_branch = c.if-not-holds.ensures in
    started _ _ _ c.items.ensures.problem c.in-Ok.ensures.fits (in_branch.first_fits refl) (in_branch.end_fits refl) (in_branch.branch refl) (in_branch.within refl) _ _ _ _ _ c.in-Ok.ensures.at c.in-Ok-of.ensures c.items.ensures.count c.new.ensures c.in-Ok-no_counts.ensures
