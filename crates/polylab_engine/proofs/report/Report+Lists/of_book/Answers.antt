use Rattle.std.proofs.Common.{◌≡◌, ◌∙◌, ap, ap₂, length, subst}
use Rattle.shared_words.specs.Answers.{Returns}
use Rattle.x_steps.specs.Run.{steps_between, visits_between}
use Rattle.x_steps.specs.Levels.{trimmed_levels}
use Rattle.x_steps.specs.StateValue.{StateValue, done}
use Rattle.x_branches.specs.declared.branch.Branch.{Branch}
use Rattle.x_branches.specs.Branch.{end_of}
use Rattle.polylab_engine.specs.Account.{ReportValue, kept}
use Rattle.polylab_engine.proofs.AccountLemmas.{report_between}
use Rattle.polylab_engine.proofs.report.Report+Lists.of_book.Goals as goal

pub returns : goal.returns
returns c =
    let p = c.args.book.now.problem in
    let ends : end_of c.args.book.now.branch.hi ≡ done = ap (λ (b : Branch). end_of b.hi) c.requires.branch in
    subst (λ (r : ReportValue). Returns c.of_numbers.result r)
    (report_between c.args.keeps p _
    (c.in_ok-visits.ensures c.requires.finished ∙ ap₂ (λ (s t : StateValue). kept c.args.keeps (visits_between p s t)) c.requires.first ends)
    (c.visited.ensures.whole c.requires.finished ∙ ap₂ (λ (s t : StateValue). length (visits_between p s t)) c.requires.first ends)
    (c.steps.ensures.whole c.requires.finished ∙ ap₂ (λ (s t : StateValue). steps_between p s t) c.requires.first ends)
    (c.deref.ensures.value ∙ c.in_ok-levels.ensures.whole c.requires.finished ∙ ap₂ (λ (s t : StateValue). trimmed_levels p s t) c.requires.first ends))
    c.of_numbers.ensures
