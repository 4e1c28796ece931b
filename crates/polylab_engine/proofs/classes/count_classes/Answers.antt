use Rattle.polylab_engine.proofs.CoverListLemmas.{report_covers}
use Rattle.polylab_engine.proofs.ClassifiedLemmas.{classes_text}
use Rattle.polylab_engine.proofs.classes.count_classes.Goals as goal

pub push_classes-requires : goal.push_classes-requires
push_classes-requires g c =
    report_covers c.args.compiled.now _ _ _ c.problem-problem.ensures c.is_sound.ensures.problem c.in_ok-report.ensures.report c.visits.ensures

pub returns-clause-text : goal.returns-clause-text
returns-clause-text g c =
    classes_text c.args.compiled.now c.problem-problem.result.now c.in_ok-report.report c.visits.result.now _ _ c.in_ok-report.ensures.report c.problem-problem.ensures c.visits.ensures c.in_ok-text.ensures
    c.in_ok-push_classes.ensures
