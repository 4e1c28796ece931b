use Rattle.std.proofs.Common.{ap, ◌∙◌}
use Rattle.cover_problem.specs.Problem.{ProblemValue, option_at}
use Rattle.x_branches.proofs.UntriedLemmas.{left_tested}
use Rattle.x_branches.proofs.runner.Runner.is_left.Goals as goal

pub returns : goal.returns
returns g c =
    let within = rw (← c.self.view_is) at c.requires.within in
    let before = rw (← c.self.view_is) at c.covered_at-item.ensures.before in
    let item = rw (← c.self.view_is) at c.covered_at-item.ensures.item in
    let option = c.option.ensures ∙ ap (λ (p : ProblemValue). option_at p c.args.option) c.problem.ensures in
    rw (← c.self.view_is) (left_tested _ _ c.args.option _ _ _ _ c.requires.some within before item option c.is_remaining.ensures)
