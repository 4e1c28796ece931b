use Rattle.std.proofs.Common.{arith}
use Rattle.part_sums.proofs.SumLemmas.{level_more}
use Rattle.part_sums.proofs.sum.levels_sum.Goals as goal

pub loop-level-preserved : goal.loop-level-preserved
loop-level-preserved c =
    level_more c.args.a.now c.args.b.now _ _ c.loop-level.level _ (omega (arith, c.most_levels-level-end.ensures)) c.loop-level.invariant c.in_ok-level_sum.ensures c.in_ok-push.ensures.items
