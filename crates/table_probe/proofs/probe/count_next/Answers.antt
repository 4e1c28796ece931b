use Rattle.std.proofs.Common.{◌≡◌, length, ap, arith, sym, subst}
use Rattle.cover_problem.specs.Problem.{ProblemValue, IsProblem}
use Rattle.x_steps.specs.StateValue.{StateValue}
use Rattle.x_steps.specs.declared.state.Label.TheVariants.{X5}
use Rattle.x_steps.specs.declared.state.Cursor.TheVariants.{At}
use Rattle.table_probe.proofs.StepLemmas.{tried_option}
use Rattle.table_probe.proofs.probe.count_next.Goals as goal

pub choose-requires : goal.choose-requires
choose-requires g c = subst IsProblem (sym c.table.ensures.same_problem) c.state.ensures.problem

pub write-requires : goal.write-requires
write-requires g c =
    let here = ap (λ (s : StateValue). s.label) c.state.ensures.state in
    let there = ap (λ (s : StateValue). s.cursor) c.state-2.ensures.state in
    let label : c.args.machine.now.state.label ≡ X5 = cc in
    let cursor : c.args.machine.now.state.cursor ≡ At c.in-X5-At.option = cc in
    let o = tried_option _ _ _ c.state.ensures.fits label cursor in
    let some = o.0 in
    let within = o.1 in
    let count = ap (λ (p : ProblemValue). length p.options) c.problem.ensures in
    record { some = omega arith; within = omega arith }
