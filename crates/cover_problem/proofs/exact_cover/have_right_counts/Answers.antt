use Rattle.std.proofs.Common.{arith, sym, ◌∙◌, length}
use Rattle.cover_problem.specs.CoverTest.{has_right_count}
use Rattle.cover_problem.proofs.CoverTestLemmas.{right_count_more}
use Rattle.cover_problem.proofs.exact_cover.have_right_counts.Goals as goal

pub loop-item-preserved : goal.loop-item-preserved
loop-item-preserved c =
    right_count_more (has_right_count c.args.problem.now c.args.chosen.now) (length c.args.problem.now.names) c.loop-item.item _ (omega (arith, c.loop-item-test.true, c.items-item-end.ensures.count))
    (sym c.has_right_count.ensures ∙ c.if-not-has_right_count.false) c.loop-item.invariant
