use Rattle.std.proofs.Common.{arith, sym, ◌∙◌}
use Rattle.cover_problem.proofs.ChoiceLemmas.{some_active, first_is, begins, next_is, takes, keeps, falls, walks_end, zero_ends}
use Rattle.cover_problem.proofs.table.Table.choose.Goals as goal

pub unwrap-best-requires : goal.unwrap-best-requires
unwrap-best-requires g c = rw c.first_item.ensures (some_active _ _ c.requires.open)

pub len-least-requires : goal.len-least-requires
len-least-requires g c =
    let f = first_is _ _ _ _ c.first_item.ensures c.unwrap-best.ensures in record { some = f.1; within = omega (arith, f.2, c.requires.problem.within) }

pub loop-next-init : goal.loop-next-init
loop-next-init g c = begins _ _ _ _ c.first_item.ensures c.unwrap-best.ensures _ c.len-least.ensures

pub len-len-requires : goal.len-len-requires
len-len-requires g c =
    let n = next_is _ _ _ _ _ _ _ c.loop-next.invariant c.next_item.ensures c.in-Some.is in record { some = n.1; within = omega (arith, n.2, c.requires.problem.within) }

pub loop-next-smaller-then-len-least : goal.loop-next-smaller-then-len-least
loop-next-smaller-then-len-least g c = falls _ _ _ _ _ _ _ c.loop-next.invariant c.next_item.ensures c.in-Some.is

pub loop-next-preserved-then-len-least : goal.loop-next-preserved-then-len-least
loop-next-preserved-then-len-least g c =
    takes _ _ _ _ _ _ _ c.loop-next.invariant c.next_item.ensures c.in-Some.is _ c.len-len.ensures c.if-len-least.true

pub loop-next-smaller : goal.loop-next-smaller
loop-next-smaller g c = falls _ _ _ _ _ _ _ c.loop-next.invariant c.next_item.ensures c.in-Some.is

pub loop-next-preserved : goal.loop-next-preserved
loop-next-preserved g c =
    keeps _ _ _ _ _ _ _ c.loop-next.invariant c.next_item.ensures c.in-Some.is _ c.len-len.ensures c.if-len-least.false

pub returns : goal.returns
returns g c = sym (walks_end _ _ _ _ _ c.loop-next.invariant (sym c.next_item.ensures ∙ c.in_default.is))

pub returns-then-least-eq0 : goal.returns-then-least-eq0
returns-then-least-eq0 g c = sym (zero_ends _ _ _ _ _ c.loop-next.invariant c.if-least-eq0.true)
