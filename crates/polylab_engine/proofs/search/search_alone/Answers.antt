use Rattle.polylab_engine.proofs.StopLemmas.{whole_not_past, whole_stretch, not_stopped}
use Rattle.polylab_engine.proofs.search.search_alone.Goals as goal

pub search_on-requires-clause-not_past : goal.search_on-requires-clause-not_past
search_on-requires-clause-not_past g c = whole_not_past c.args.keeps c.args.problem.now _ c.in_ok-searcher.ensures.position

pub returns : goal.returns
returns g c =
    whole_stretch c.args.keeps c.args.problem.now _ c.in_ok-searcher.ensures.position _ _ (not_stopped _ c.in_ok-report.ensures.stop) c.in_ok-report.ensures.report
