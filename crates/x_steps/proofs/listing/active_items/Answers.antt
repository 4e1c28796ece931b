use Rattle.std.proofs.Common.{arith}
use Rattle.std.proofs.lemmas.List.{map-append}
use Rattle.cover_problem.proofs.ActiveLemmas.{active_rises, active_in}
use Rattle.x_steps.proofs.ListingLemmas.{rows_member, active_more, rows_all}
use Rattle.x_steps.proofs.listing.active_items.Goals as goal

pub options_of-requires : goal.options_of-requires
options_of-requires g c =
    let a = active_in _ _ _ (rows_member _ _ (active_rises _ _) _ _ c.loop-next.invariant _ c.in-Some.is) in
    record { some = a.1; within = omega (arith, a.2, c.requires.within) }

pub next_item-next-requires : goal.next_item-next-requires
next_item-next-requires g c = rows_member _ _ (active_rises _ _) _ _ c.loop-next.invariant _ c.in-Some.is

pub loop-next-preserved : goal.loop-next-preserved
loop-next-preserved g c =
    rw (c.in_ok-push.ensures.items, map-append) (active_more _ _ _ _ c.loop-next.invariant _ _ _ c.in-Some.is c.next_item-next.ensures c.in_ok-options_of.ensures)

pub returns : goal.returns
returns g c = rows_all _ _ (active_rises _ _) _ _ c.loop-next.invariant c.in_default.is
