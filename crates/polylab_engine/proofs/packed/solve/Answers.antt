use Rattle.polylab_engine.proofs.CoverListLemmas.{report_covers}
use Rattle.polylab_engine.proofs.packed.solve.Goals as goal

pub write_packings-requires : goal.write_packings-requires
write_packings-requires g c =
    report_covers c.args.compiled.now _ _ _ c.problem-problem.ensures c.is_sound.ensures.problem c.in_ok-report.ensures.report c.visits.ensures
