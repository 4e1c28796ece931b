use Rattle.std.proofs.Common.{arith}
use Rattle.cover_problem.proofs.ActiveLemmas.{active_rises, active_in}
use Rattle.cover_problem.proofs.WalkLemmas.{above_in}
use Rattle.table_probe.proofs.WalkLemmas.{next_in, nearer}
use Rattle.table_probe.proofs.words.looked_at.Goals as goal

pub loop-next-init : goal.loop-next-init
loop-next-init g c = above_in _ _ _ c.first_item-next.ensures

pub len-requires : goal.len-requires
len-requires g c =
    let a = active_in _ _ _ (next_in _ _ _ c.loop-next.invariant c.in-Some.is) in
    record { some = a.1; within = omega (arith, a.2, c.requires.within) }

pub next_item-next-requires : goal.next_item-next-requires
next_item-next-requires g c = next_in _ _ _ c.loop-next.invariant c.in-Some.is

pub loop-next-preserved : goal.loop-next-preserved
loop-next-preserved g c = above_in _ _ _ c.next_item-next.ensures

pub loop-next-smaller : goal.loop-next-smaller
loop-next-smaller g c =
    nearer _ _ _ _ _ (active_rises _ _) (λ k h. (active_in _ _ k h).2) c.loop-next.invariant c.in-Some.is c.next_item-next.ensures
