use Rattle.x_branches.proofs.RunnerLemmas.{position_fits}
use Rattle.x_branches.proofs.UntriedLemmas.{at_level}
use Rattle.x_branches.proofs.runner.Runner.left_behind.Goals as goal

pub options_above-requires : goal.options_above-requires
options_above-requires g c =
    let l = at_level _ _ _ _ c.self.invariant.sound (position_fits _ _ _ _ c.self.invariant) (rw (← c.self.view_is) at c.requires.choice) in
    rw (c.table.ensures.same_problem, c.table.ensures.covered, c.requires.item, ← c.self.view_is) l.member

pub returns : goal.returns
returns g c =
    let l = at_level _ _ _ _ c.self.invariant.sound (position_fits _ _ _ _ c.self.invariant) (rw (← c.self.view_is) at c.requires.choice) in
    let listed = rw (c.table.ensures.same_problem, c.table.ensures.covered, c.requires.item, ← c.self.view_is) at c.options_above.ensures in
    rw (← c.self.view_is, ← l.left) listed
