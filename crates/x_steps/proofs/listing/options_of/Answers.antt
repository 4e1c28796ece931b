use Rattle.cover_problem.proofs.RemainingLemmas.{list_rises}
use Rattle.x_steps.proofs.ListingLemmas.{lists_member, lists_more, lists_all}
use Rattle.x_steps.proofs.listing.options_of.Goals as goal

pub next_option-next-requires : goal.next_option-next-requires
next_option-next-requires g c = lists_member _ (list_rises _ _ _) _ _ c.loop-next.invariant _ c.in-Some.is

pub loop-next-preserved : goal.loop-next-preserved
loop-next-preserved g c =
    rw c.in_ok-push.ensures.items (lists_more _ (list_rises _ _ _) _ _ c.loop-next.invariant _ _ c.in-Some.is c.next_option-next.ensures)

pub returns : goal.returns
returns g c = lists_all _ (list_rises _ _ _) _ _ c.loop-next.invariant c.in_default.is
