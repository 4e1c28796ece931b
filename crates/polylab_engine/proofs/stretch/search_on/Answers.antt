use Rattle.std.proofs.Common.{◌≤◌, ◌∙◌, ℕ, sym, ap, subst, length}
use Rattle.std.specs.Option.{ForSome}
use Rattle.cover_problem.specs.Problem.{ProblemValue}
use Rattle.x_steps.specs.StateValue.{StateValue}
use Rattle.x_steps.specs.StateView.{state_value}
use Rattle.x_steps.specs.Steps.{Fits}
use Rattle.polylab_engine.specs.Account.{ReportValue, empty_account, report_of}
use Rattle.polylab_engine.specs.Searcher.{stands}
use Rattle.polylab_engine.specs.Stretch.{report_from, StopsAt, HasFewerBefore}
use Rattle.polylab_engine.proofs.stretch.search_on.Goals as goal

pub walk_to_stop-requires-clause-empty : goal.walk_to_stop-requires-clause-empty
walk_to_stop-requires-clause-empty g c =
    c.in_ok-tally.ensures ∙ ap empty_account (c.items.ensures.count ∙ ap (λ (q : ProblemValue). length q.names) c.problem.ensures)

pub returns-clause-stop : goal.returns-clause-stop
returns-clause-stop g c =
    subst (λ (n : ℕ). StopsAt c.args.bounds.first c.args.bounds.most (stands c.args.searcher) c.args.bounds.end.now n (state_value c.in_ok-stop.stop)) (sym (ap (λ (r : ReportValue). r.visited) c.in_ok-report.ensures))
    (subst (λ (s : StateValue). StopsAt c.args.bounds.first c.args.bounds.most (stands c.args.searcher) c.args.bounds.end.now c.walk_to_stop.new.tally.visited s) (sym (c.in_ok-stop.ensures ∙ c.state.ensures.state))
    c.in_ok-walk_to_stop.ensures.stop)

pub returns-clause-first : goal.returns-clause-first
returns-clause-first g c =
    subst (λ (k : ℕ). ForSome c.args.bounds.first (λ n. k ≤ n)) (sym (ap (λ (r : ReportValue). r.visited) c.in_ok-report.ensures)) c.in_ok-walk_to_stop.ensures.first

pub returns-clause-soon : goal.returns-clause-soon
returns-clause-soon g c =
    subst (λ (k : ℕ). ForSome c.args.bounds.first (λ n. HasFewerBefore (stands c.args.searcher) k n)) (sym (ap (λ (r : ReportValue). r.steps) c.in_ok-report.ensures)) c.in_ok-walk_to_stop.ensures.soon

pub returns-clause-fits : goal.returns-clause-fits
returns-clause-fits g c =
    subst (λ (s : StateValue). Fits (stands c.args.searcher).problem s) (sym (c.in_ok-stop.ensures ∙ c.state.ensures.state)) c.in_ok-walk_to_stop.ensures.fits

pub returns-clause-report : goal.returns-clause-report
returns-clause-report g c =
    c.in_ok-report.ensures ∙ ap report_of c.in_ok-walk_to_stop.ensures.account
    ∙ ap (λ (s : StateValue). report_from c.args.bounds.keeps (stands c.args.searcher) s) (sym (c.in_ok-stop.ensures ∙ c.state.ensures.state))
