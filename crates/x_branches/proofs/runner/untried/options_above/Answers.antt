use Rattle.cover_problem.proofs.RemainingLemmas.{list_rises}
use Rattle.x_branches.proofs.AboveLemmas.{above_begin, above_member, above_more, above_end}
use Rattle.x_branches.proofs.runner.untried.options_above.Goals as goal

pub loop-next-init : goal.loop-next-init
loop-next-init g c = rw c.new-options.ensures.items (above_begin _ _ (list_rises _ _ _) _ c.next_option-next.ensures)

pub next_option-next-requires-in-Some : goal.next_option-next-requires-in-Some
next_option-next-requires-in-Some g c = above_member _ _ (list_rises _ _ _) _ _ c.loop-next.invariant _ c.in-Some.is

pub loop-next-preserved : goal.loop-next-preserved
loop-next-preserved g c = rw c.in_ok-push.ensures.items (above_more _ _ (list_rises _ _ _) _ _ c.loop-next.invariant _ _ c.in-Some.is c.next_option-next-in-Some.ensures)

pub returns : goal.returns
returns g c = above_end _ _ (list_rises _ _ _) _ _ c.loop-next.invariant c.in_default.is
