use Rattle.std.proofs.Common.{arith, ◌≤◌, ◌+◌}
use Rattle.std.proofs.lemmas.List.{map-append}
use Rattle.x_steps.proofs.SecondLemmas.{second_flagged, second_unflagged, second_all, covered_within, flag_is}
use Rattle.x_steps.proofs.listing.secondary_items.Goals as goal

pub flags_of-requires : goal.flags_of-requires
flags_of-requires g c = covered_within _ _ _ _ _ c.requires c.items.ensures.count c.covered.ensures.distinct c.covered.ensures.list

pub loop-before-preserved-then-is_flagged : goal.loop-before-preserved-then-is_flagged
loop-before-preserved-then-is_flagged g c =
    let within : c.loop-before.before + 1 ≤ c.items.result = omega (arith, c.items.ensures.count, c.items-before-end.ensures.count) in
    second_flagged _ _ _ _ c.loop-before.invariant _ (flag_is _ _ _ _ _ _ _ c.in_ok-flags.ensures c.covered.ensures.list c.deref.ensures.value c.is_flagged.ensures within) c.if-is_flagged.true

pub loop-before-preserved : goal.loop-before-preserved
loop-before-preserved g c =
    let within : c.loop-before.before + 1 ≤ c.items.result = omega (arith, c.items.ensures.count, c.items-before-end.ensures.count) in
    rw (c.in_ok-push.ensures.items, map-append)
    (second_unflagged _ _ _ _ c.loop-before.invariant _ (flag_is _ _ _ _ _ _ _ c.in_ok-flags.ensures c.covered.ensures.list c.deref.ensures.value c.is_flagged.ensures within) c.if-is_flagged.false _ c.requires _ c.in_ok-options_of.ensures)

pub returns : goal.returns
returns g c = second_all _ _ _ _ c.loop-before.invariant (omega (arith, c.items.ensures.count, c.items-before-end.ensures.count, c.items.ensures.problem.within, c.primary-before.ensures))
