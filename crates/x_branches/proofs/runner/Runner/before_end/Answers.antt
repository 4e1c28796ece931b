use Rattle.std.proofs.Common.{All, sym, ◌∙◌}
use Rattle.x_steps.specs.declared.state.Label.TheVariants.{X5}
use Rattle.x_steps.specs.declared.state.Cursor.TheVariants.{At}
use Rattle.x_steps.specs.StateValue.{at}
use Rattle.x_steps.specs.Steps.{Fits}
use Rattle.x_branches.specs.Branch.{end_of}
use Rattle.x_branches.proofs.RunnerLemmas.{position_fits}
use Rattle.x_branches.proofs.UntriedLemmas.{left_fit, left_unless, none_untried, untried_left}
use Rattle.x_branches.proofs.runner.Runner.before_end.Goals as goal

pub returns : goal.returns
returns g c =
    let p = c.self.inside.machine.problem in
    let fits : All (λ k. Fits p (at X5 c.front.result.now (At k))) c.args.above.now = rw (c.front.ensures, c.requires, ← c.self.view_is) (left_fit p c.self.inside.machine.state c.args.level (position_fits _ _ _ _ c.self.invariant)) in
    let kept = rw (c.front.ensures, c.requires, ← c.self.view_is) at (c.cut_inside.ensures p c.self.invariant.inside.branch.high fits) in
    rw (← c.self.view_is, ← untried_left _ _ c.self.inside.machine.state c.args.level) kept

pub front-requires : goal.front-requires
front-requires g c =
    let b = c.args.self.now in
    left_unless b.problem b.position c.args.level c.args.above.now c.requires c.is_empty.result c.is_empty.ensures c.if-is_empty.false

pub returns-then-is_empty : goal.returns-then-is_empty
returns-then-is_empty g c =
    let b = c.args.self.now in
    c.new.ensures.items ∙ sym (none_untried b.problem (end_of b.branch.hi) b.position c.args.level c.args.above.now c.requires c.is_empty.result c.is_empty.ensures c.if-is_empty.true)
