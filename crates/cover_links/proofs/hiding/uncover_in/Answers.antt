use Rattle.std.proofs.Common.{◌<◌, length, ap, subst, sym, ◌∙◌}
use Rattle.cover_links.specs.Hiding.{item_uncovered}
use Rattle.cover_links.proofs.EntryLemmas.{length-item_relinked}
use Rattle.cover_links.proofs.ListTurns.{unhiding, left_begin, left_can, left_low, left_on, left_none, turn_left, none_left}
use Rattle.cover_links.proofs.hiding.uncover_in.Goals as goal

pub read-head-requires-clause-within : goal.read-head-requires-clause-within
read-head-requires-clause-within c = subst (λ m. c.args.item < m) (sym (ap length c.relink_item.ensures.entries ∙ length-item_relinked c.args.row.now.entries c.args.item)) c.requires.can.row.here

pub loop-init : goal.loop-init
unfolding item_uncovered
loop-init c = record { place = c.relink_item.ensures.place; left = left_begin unhiding c.args.item c.relink_item.ensures.entries c.read-head.ensures c.index-end.ensures c.requires.can.options }

pub unhide-requires-clause-can : goal.unhide-requires-clause-can
unhide-requires-clause-can c = left_can unhiding c.loop.invariant.left (turn_left c.index-end.result c.loop.counter c.loop-test.true)

pub read-node-requires-clause-within : goal.read-node-requires-clause-within
read-node-requires-clause-within c = left_low unhiding c.loop.invariant.left (turn_left c.index-end.result c.loop.counter c.loop-test.true) c.unhide.ensures.entries

pub loop-preserved : goal.loop-preserved
loop-preserved c = record {
  place = c.unhide.ensures.place ∙ c.loop.invariant.place;
  left = left_on unhiding c.loop.invariant.left (turn_left c.index-end.result c.loop.counter c.loop-test.true) c.unhide.ensures.entries c.read-node.ensures;
}

pub returns-clause-entries : goal.returns-clause-entries
returns-clause-entries c = left_none unhiding c.loop.invariant.left (none_left c.index-end.result c.loop.counter c.loop-test.false)
