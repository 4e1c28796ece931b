use Rattle.std.proofs.Common.{◌∙◌, sym, subst, ap₂}
use Rattle.std.proofs.lemmas.Result.{IfOk-weaker}
use Rattle.x_steps.specs.Steps.{Fits}
use Rattle.x_steps.specs.Resume.{position}
use Rattle.x_steps.specs.StateView.{state_value}
use Rattle.polylab_engine.proofs.resumption.searcher_at.Goals as goal

pub at-requires : goal.at-requires
at-requires c =
    subst (λ p. Fits p (state_value c.state.result.now)) (sym c.problem.ensures.problem)
    (subst (Fits c.args.snapshot.now.problem) (sym c.state.ensures) c.problem.ensures.snapshot.on_run.fits)

pub returns : goal.returns
returns c = IfOk-weaker c.at.result _ _ (λ s h. h ∙ ap₂ position c.problem.ensures.problem c.state.ensures) c.at.ensures.position
