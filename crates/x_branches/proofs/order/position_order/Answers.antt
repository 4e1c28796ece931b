use Rattle.std.proofs.Common.{◌≡◌, ap}
use Rattle.cover_problem.specs.Problem.{ProblemValue}
use Rattle.x_steps.specs.StateValue.{StateValue}
use Rattle.x_steps.specs.Steps.{Fits}
use Rattle.x_branches.proofs.StageLemmas.{orders}
use Rattle.x_branches.proofs.order.position_order.Goals as goal

pub returns : goal.returns
returns c =
    let a : c.one.inside.path.now ≡ c.args.one.now.path = ap (λ (s : StateValue). s.path) c.one.view_is in
    let b : c.other.inside.path.now ≡ c.args.other.now.path = ap (λ (s : StateValue). s.path) c.other.view_is in
    let told = λ (p : ProblemValue) (f : Fits p c.args.one.now) (g : Fits p c.args.other.now). orders p c.args.one.now c.args.other.now _ _ _ _ f g (rw (a, b) at c.shared-level.ensures) (c.stage.ensures p f) (c.stage-2.ensures p g) c.cmp.ensures in
    record { less = λ p f g. (told p f g).less; equal = λ p f g. (told p f g).equal; greater = λ p f g. (told p f g).greater }
