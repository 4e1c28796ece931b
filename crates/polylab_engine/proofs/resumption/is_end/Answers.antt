use Rattle.std.proofs.Common.{sym, ◌∙◌}
use Rattle.polylab_engine.proofs.ResumeLemmas.{end_at_last, end_at_none}
use Rattle.polylab_engine.proofs.resumption.is_end.Goals as goal

pub returns-in-Some : goal.returns-in-Some
returns-in-Some c =
    let e = end_at_last c.args.end.now c.in-Some.front.now c.in-Some.last.now c.in-Some.ensures.cases.0 in
    (λ h. c.is_cut.ensures.0 h ∙ sym e, λ h. c.is_cut.ensures.1 (h ∙ e))

pub returns-in-None : goal.returns-in-None
returns-in-None c =
    let e = end_at_none c.args.end.now c.in-None.ensures.cases in
    (λ h. c.is_done.ensures.0 h ∙ sym e, λ h. c.is_done.ensures.1 (h ∙ e))
