use Rattle.std.proofs.Common.{◌∙◌, sym, subst}
use Rattle.cover_problem.specs.Problem.{ProblemValue}
use Rattle.x_steps.specs.StateView.{state_value}
use Rattle.x_steps.specs.Steps.{Fits}
use Rattle.table_probe.specs.Words.{HasWords}
use Rattle.table_probe.proofs.StepLemmas.{stands_again}
use Rattle.table_probe.proofs.probe.costs_ahead.Goals as goal

pub cover_from-requires : goal.cover_from-requires
cover_from-requires g c = subst (λ (p : ProblemValue). HasWords p c.in_ok-words.words) c.problem.ensures c.in_ok-words.ensures

pub move_to-requires : goal.move_to-requires
move_to-requires g c =
    subst (λ (p : ProblemValue). Fits p (state_value c.in_ok-start.start)) (sym c.walk_on-walked.ensures) (subst (Fits c.args.machine.now.problem) (sym (c.in_ok-start.ensures ∙ c.state.ensures.state)) c.state.ensures.fits)

pub returns : goal.returns
returns g c = stands_again _ c.walk_on-walked.new.machine _ _ c.move_to.ensures c.walk_on-walked.ensures (c.in_ok-start.ensures ∙ c.state.ensures.state)
