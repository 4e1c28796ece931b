use Rattle.std.proofs.Common.{◌∙◌}
use Rattle.std.proofs.lemmas.Result.{IfOk-weaker}
use Rattle.polylab_engine.proofs.FirstLemmas.{covers_written}
use Rattle.polylab_engine.proofs.cover.first_covers.Goals as goal

pub returns : goal.returns
returns c =
    IfOk-weaker c.visits_and.result _ _
    (λ text h. covers_written c.args.first c.args.problem.now c.in_ok-report.report c.in_ok-report.ensures _ _ _ c.new-end.ensures.items (c.deref.ensures.value ∙ c.in_ok-push_end.ensures) h)
    c.visits_and.ensures
