use Rattle.std.proofs.Common.{arith, rules}
use Rattle.cover_problem.proofs.CoveredLemmas.{covered_room}
use Rattle.cover_links.proofs.TableLemmas.{uncovered_in, covers_can, covers}
use Rattle.cover_links.proofs.table.LinkTableTable.cover.Goals as goal

pub cover_item-requires : goal.cover_item-requires
cover_item-requires c = covers_can c.self.invariant (uncovered_in c.self.view_is (record { some = c.requires.some; within = c.requires.within; uncovered = c.requires.uncovered }))

pub push_reserved-requires : goal.push_reserved-requires
push_reserved-requires c =
    let t = c.self.invariant in let u = uncovered_in c.self.view_is (record { some = c.requires.some; within = c.requires.within; uncovered = c.requires.uncovered }) in
    let r = covered_room _ _ _ t.covered u in let cap = t.capacity in search (rules, arith, r, cap)

pub invariant_of-self : goal.invariant_of-self
invariant_of-self c =
    let u = uncovered_in c.self.view_is (record { some = c.requires.some; within = c.requires.within; uncovered = c.requires.uncovered }) in
    let push = c.push_reserved.ensures in covers c.self.invariant u c.cover_item.ensures push.items push.capacity
