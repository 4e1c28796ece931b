use Rattle.std.proofs.Common.{subst}
use Rattle.cover_problem.specs.Problem.{ProblemValue}
use Rattle.polylab_engine.specs.First.{IsFirstReport}
use Rattle.polylab_engine.proofs.FirstLemmas.{packings_shown}
use Rattle.polylab_engine.proofs.CoverListLemmas.{first_report_covers}
use Rattle.polylab_engine.proofs.packed.first_packings.Goals as goal

pub write_packings-requires : goal.write_packings-requires
write_packings-requires c =
    first_report_covers c.args.first c.args.compiled.now _ _ _ c.problem-problem.ensures c.is_sound.ensures.problem c.in_ok-report.ensures c.visits.ensures

pub returns : goal.returns
returns c =
    let first = subst (λ (q : ProblemValue). IsFirstReport c.args.first q c.in_ok-report.report) c.problem-problem.ensures c.in_ok-report.ensures in
    packings_shown c.args.first c.args.compiled.now c.in_ok-report.report first _ _ _ _ _ c.new-text.ensures.items c.visits.ensures c.visited.ensures c.in_ok-write_packings.ensures c.in_ok-push_end.ensures
