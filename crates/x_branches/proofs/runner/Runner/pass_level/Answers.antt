use Rattle.std.proofs.Common.{ℕ, length, ap, arith}
use Rattle.x_branches.proofs.RunnerLemmas.{position_fits}
use Rattle.x_branches.proofs.LevelLemmas.{is_passed}
use Rattle.x_branches.proofs.runner.Runner.pass_level.Goals as goal

pub option-option-requires : goal.option-option-requires
option-option-requires g c =
    let l = is_passed _ _ _ c.self.invariant.sound (position_fits _ _ _ _ c.self.invariant) (rw (← c.self.view_is) at c.requires.level) in
    rw (c.problem.ensures, c.path.ensures, ← c.self.view_is) (record { some = l.choice.some; within = l.choice.within })

pub offset_bounds-items-covered : goal.offset_bounds-items-covered
offset_bounds-items-covered g c =
    let l = is_passed _ _ _ c.self.invariant.sound (position_fits _ _ _ _ c.self.invariant) (rw (← c.self.view_is) at c.requires.level) in
    let within = l.here.within in
    let count = rw (← c.self.view_is) at c.requires.covered in
    let list = rw c.covered-items.ensures at c.covered-items.type_inv in
    omega (arith, list.0, list.1)

pub bounds-items-covered : goal.bounds-items-covered
bounds-items-covered g c =
    let l = is_passed _ _ _ c.self.invariant.sound (position_fits _ _ _ _ c.self.invariant) (rw (← c.self.view_is) at c.requires.level) in
    rw (c.requires.covered, c.covered-items.ensures, ← c.self.view_is) l.here.within

pub overflow_add-result : goal.overflow_add-result
overflow_add-result g c =
    let l = is_passed _ _ _ c.self.invariant.sound (position_fits _ _ _ _ c.self.invariant) (rw (← c.self.view_is) at c.requires.level) in
    let more = ap (length {A = ℕ}) (rw (c.problem.ensures, c.path.ensures, ← c.self.view_is) at c.option-option.ensures) in
    let now = l.count in
    let most = l.most in
    let count = rw (← c.self.view_is) at c.requires.covered in
    let list = rw c.covered-items.ensures at c.covered-items.type_inv in
    omega (arith, list.0, list.1)

pub returns-clause-item : goal.returns-clause-item
returns-clause-item g c =
    let l = is_passed _ _ _ c.self.invariant.sound (position_fits _ _ _ _ c.self.invariant) (rw (← c.self.view_is) at c.requires.level) in
    rw (c.requires.covered, c.covered-items.ensures, ← c.self.view_is) l.here.place

pub returns-clause-covered : goal.returns-clause-covered
returns-clause-covered g c =
    let l = is_passed _ _ _ c.self.invariant.sound (position_fits _ _ _ _ c.self.invariant) (rw (← c.self.view_is) at c.requires.level) in
    let more = ap (length {A = ℕ}) (rw (c.problem.ensures, c.path.ensures, ← c.self.view_is) at c.option-option.ensures) in
    let now = l.count in
    let count = rw (← c.self.view_is) at c.requires.covered in
    rw (← c.self.view_is) (omega arith)
