use Rattle.std.proofs.Common.{◌≡◌, length, ap, arith}
use Rattle.cover_problem.specs.Problem.{ProblemValue}
use Rattle.x_steps.specs.StateValue.{StateValue}
use Rattle.x_steps.specs.declared.state.Label.TheVariants.{X6}
use Rattle.x_steps.specs.declared.state.Cursor.TheVariants.{At}
use Rattle.table_probe.proofs.StepLemmas.{left_option}
use Rattle.table_probe.proofs.probe.uncovered_next.Goals as goal

pub option-requires : goal.option-requires
option-requires g c =
    let here = ap (λ (s : StateValue). s.label) c.state.ensures.state in
    let there = ap (λ (s : StateValue). s.cursor) c.state-2.ensures.state in
    let label : c.args.machine.now.state.label ≡ X6 = cc in
    let cursor : c.args.machine.now.state.cursor ≡ At c.in-X6-At.option = cc in
    let o = left_option _ _ _ c.state.ensures.fits label cursor in
    let some = o.0 in
    let within = o.1 in
    let count = ap (λ (p : ProblemValue). length p.options) c.problem.ensures in
    record { some = omega arith; within = omega arith }
