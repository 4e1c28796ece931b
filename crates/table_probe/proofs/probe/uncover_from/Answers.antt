use Rattle.std.proofs.Common.{◌∙◌, sym, subst}
use Rattle.cover_problem.specs.Problem.{ProblemValue}
use Rattle.table_probe.specs.Words.{HasWords}
use Rattle.table_probe.proofs.StepLemmas.{serves}
use Rattle.table_probe.proofs.probe.uncover_from.Goals as goal

pub uncover-requires : goal.uncover-requires
uncover-requires g c = record {
  words = subst (λ (p : ProblemValue). HasWords p c.loop-place.words) (sym c.problem-problem.ensures) c.loop-place.invariant;
  serves = serves _ _ _ _ c.loop-place.place _ (c.table-table.ensures.same_problem ∙ sym c.problem-problem.ensures) c.covered-covered.ensures.distinct c.covered-covered.ensures.list c.loop-place-test.true;
}

pub loop-place-preserved : goal.loop-place-preserved
loop-place-preserved g c = subst (λ (p : ProblemValue). HasWords p c.uncover.new.self) c.problem-problem.ensures c.uncover.ensures
