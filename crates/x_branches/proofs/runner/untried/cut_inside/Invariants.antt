use Rattle.std.proofs.Common.{◌≡◌, All, filter, take}
use Rattle.cover_problem.specs.Problem.{ProblemValue}
use Rattle.x_steps.specs.declared.state.Label.TheVariants.{X5}
use Rattle.x_steps.specs.declared.state.Cursor.TheVariants.{At}
use Rattle.x_steps.specs.StateValue.{at}
use Rattle.x_steps.specs.Steps.{Fits}
use Rattle.x_branches.specs.Branch.{end_of}
use Rattle.x_branches.specs.Untried.{is_before_end}
use Rattle.x_branches.specs.Runner.{IsOf}
use Rattle.x_branches.proofs.runner.untried.cut_inside.Given as goal

abbrev pub invariant-loop-option : goal.invariant-loop-option
invariant-loop-option l = (p : ProblemValue) → IsOf p l.branch.hi → All (λ k. Fits p (at X5 l.front (At k))) l.options → l.kept.items ≡ filter (is_before_end p (end_of l.branch.hi) l.front) (take l.option-index l.options)
