use Rattle.std.proofs.Common.{arith}
use Rattle.x_branches.proofs.RunnerLemmas.{position_fits}
use Rattle.x_branches.proofs.UntriedLemmas.{level_known}
use Rattle.x_branches.proofs.runner.Runner.covered_at.Goals as goal

pub covered_count-count-requires : goal.covered_count-count-requires
covered_count-count-requires g c =
    let here = rw (← c.self.view_is) at c.requires in
    let l = (level_known _ _ _ c.self.invariant.sound (position_fits _ _ _ _ c.self.invariant) here).1 in
    let within = l.within in
    rw (c.problem.ensures, c.front.ensures, c.covered-covered.ensures, ← c.self.view_is) (record { valid = l.valid; within = omega arith })

pub offset_bounds-covered-count : goal.offset_bounds-covered-count
offset_bounds-covered-count g c =
    let here = rw (← c.self.view_is) at c.requires in
    let l = (level_known _ _ _ c.self.invariant.sound (position_fits _ _ _ _ c.self.invariant) here).1 in
    let within = l.within in
    let count = rw (c.problem.ensures, c.front.ensures, ← c.self.view_is) at c.covered_count-count.ensures in
    let list = rw c.covered-covered.ensures at c.covered-covered.type_inv in
    omega (arith, list.0, list.1)

pub bounds-covered-count : goal.bounds-covered-count
bounds-covered-count g c =
    let here = rw (← c.self.view_is) at c.requires in
    let l = (level_known _ _ _ c.self.invariant.sound (position_fits _ _ _ _ c.self.invariant) here).1 in
    rw (c.covered_count-count.ensures, c.problem.ensures, c.front.ensures, c.covered-covered.ensures, ← c.self.view_is) l.within

pub split_at-requires : goal.split_at-requires
split_at-requires g c =
    let here = rw (← c.self.view_is) at c.requires in
    let l = (level_known _ _ _ c.self.invariant.sound (position_fits _ _ _ _ c.self.invariant) here).1 in
    let within = l.within in
    let count = rw (c.problem.ensures, c.front.ensures, ← c.self.view_is) at c.covered_count-count.ensures in
    rw c.covered-covered.ensures (omega arith)

pub returns-clause-before : goal.returns-clause-before
returns-clause-before g c =
    let here = rw (← c.self.view_is) at c.requires in
    let l = (level_known _ _ _ c.self.invariant.sound (position_fits _ _ _ _ c.self.invariant) here).1 in
    rw (c.split_at.ensures.front, c.covered_count-count.ensures, c.problem.ensures, c.front.ensures, c.covered-covered.ensures, ← c.self.view_is) l.before

pub returns-clause-item : goal.returns-clause-item
returns-clause-item g c =
    let here = rw (← c.self.view_is) at c.requires in
    let l = (level_known _ _ _ c.self.invariant.sound (position_fits _ _ _ _ c.self.invariant) here).1 in
    rw (c.covered_count-count.ensures, c.problem.ensures, c.front.ensures, c.covered-covered.ensures, ← c.self.view_is) l.place
