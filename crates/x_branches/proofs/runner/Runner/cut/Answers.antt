use Rattle.std.proofs.Common.{sym, ◌∙◌}
use Rattle.x_steps.specs.declared.state.Label.TheVariants.{X5}
use Rattle.x_steps.specs.declared.state.Cursor.TheVariants.{At}
use Rattle.x_steps.specs.StateValue.{at}
use Rattle.x_steps.specs.Steps.{Fits}
use Rattle.x_branches.specs.Branch.{end_of}
use Rattle.x_branches.proofs.RunnerLemmas.{position_fits}
use Rattle.x_branches.proofs.UntriedLemmas.{one_left_fits, untried_has}
use Rattle.x_branches.proofs.runner.Runner.cut.Goals as goal

pub returns-then-not-is_cut_inside-clause-refused : goal.returns-then-not-is_cut_inside-clause-refused
returns-then-not-is_cut_inside-clause-refused g c =
    let p = c.self.inside.machine.problem in
    let s = c.self.inside.machine.state in
    let left = sym (rw (← c.self.view_is) at c.if-not-is_left_above.ensures) in
    let fits = one_left_fits p s c.args.level c.args.option (position_fits _ _ _ _ c.self.invariant) left in
    let here : Fits p (at X5 c.front.result.now (At c.args.option)) = rw (c.front.ensures, ← c.self.view_is) fits in
    let test = rw (c.front.ensures, ← c.self.view_is) at (c.if-not-is_cut_inside.ensures p c.self.invariant.inside.branch.high here) in
    rw (← c.self.view_is) (left, untried_has p (end_of c.self.inside.branch.hi) s c.args.level c.args.option left ∙ sym test)

pub cut_at-requires : goal.cut_at-requires
cut_at-requires g c =
    let p = c.self.inside.machine.problem in
    let s = c.self.inside.machine.state in
    let left = sym (rw (← c.self.view_is) at c.if-not-is_left_above.ensures) in
    let fits = one_left_fits p s c.args.level c.args.option (position_fits _ _ _ _ c.self.invariant) left in
    let here : Fits p (at X5 c.front.result.now (At c.args.option)) = rw (c.front.ensures, ← c.self.view_is) fits in
    let test = rw (c.front.ensures, ← c.self.view_is) at (c.if-not-is_cut_inside.ensures p c.self.invariant.inside.branch.high here) in
    rw (← c.self.view_is) (untried_has p (end_of c.self.inside.branch.hi) s c.args.level c.args.option left ∙ sym test)
