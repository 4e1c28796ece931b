use Rattle.std.proofs.Common.{true}
use Rattle.polylab_engine.proofs.StopLemmas.{whole_not_past}
use Rattle.polylab_engine.proofs.FirstLemmas.{first_report}
use Rattle.polylab_engine.proofs.search.search_first.Goals as goal

pub search_on-requires-clause-not_past : goal.search_on-requires-clause-not_past
search_on-requires-clause-not_past g c = whole_not_past true c.args.problem.now _ c.in_ok-searcher.ensures.position

pub returns : goal.returns
returns g c =
    first_report c.args.first c.args.problem.now _ c.in_ok-searcher.ensures.position _ _ c.in_ok-report.ensures.stop c.in_ok-report.ensures.first c.in_ok-report.ensures.soon c.in_ok-report.ensures.fits c.in_ok-report.ensures.report
