use Rattle.std.proofs.Common.{sym, subst, ◌∙◌}
use Rattle.x_steps.specs.Steps.{Fits}
use Rattle.x_steps.specs.Machine.{MachineValue}
use Rattle.polylab_engine.specs.Stretch.{end_at}
use Rattle.polylab_engine.proofs.ResumeLemmas.{end_fits, stop_is}
use Rattle.polylab_engine.proofs.StopLemmas.{not_stopped}
use Rattle.polylab_engine.proofs.resumption.stretch_of.Goals as goal

pub search_on-requires-clause-end : goal.search_on-requires-clause-end
search_on-requires-clause-end c =
    subst (λ (m : MachineValue). Fits m.problem (end_at c.end_choices.result.now)) (sym c.in_ok-searcher.ensures)
    (subst (Fits c.args.snapshot.now.problem) (sym c.end_choices.ensures) (end_fits c.args.snapshot.now c.is_sound.ensures.snapshot))

pub returns-clause-stop : goal.returns-clause-stop
returns-clause-stop c =
    not_stopped _ c.in_ok-report.ensures.stop ∙ stop_is c.args.most c.args.snapshot.now _ _ c.in_ok-searcher.ensures c.end_choices.ensures
