use Rattle.std.proofs.Common.{ℕ, List, get_or, ap, ◌∙◌}
use Rattle.std.proofs.Math.ListN.{set}
use Rattle.x_branches.proofs.PostingLemmas.{put_more}
use Rattle.x_branches.proofs.runner.posting.put.Goals as goal

pub loop-level-preserved : goal.loop-level-preserved
loop-level-preserved c =
    ap (λ (xs : List ℕ). set xs c.loop-level.level (get_or c.args.levels.now c.loop-level.level 0)) c.loop-level.invariant ∙ put_more c.args.levels.now c.args.counts.now c.loop-level.level c.loop-level-test.true c.requires
