use Rattle.std.proofs.Common.{refl}
use Rattle.packed_rows.proofs.PieceLemmas.{common_step}
use Rattle.packed_rows.proofs.draft.common_steps.Goals as goal

pub comparing-preserved : goal.comparing-preserved
comparing-preserved c =
    let i = c.comparing.invariant in
    let s = common_step _ 64 _ _ _ _ _ _ i.common i.left i.against c.comparing-test.true c.if-against-ge-STEP.true
    (c.if-not-same_step.ensures refl) c.split_at.ensures.back c.split_at-in-comparing.ensures.back in
    record { common = s.common; left = s.left; against = s.against }
