use Rattle.std.proofs.Common.{refl, sym, ap, subst, ◌∙◌}
use Rattle.cover_links.specs.Entries.{item_unlinked}
use Rattle.cover_links.specs.Hiding.{options_hidden, item_covered}
use Rattle.cover_links.specs.Safety.{IsItemInside}
use Rattle.cover_links.proofs.ListTurns.{hiding, left_begin, left_can, left_low, left_on, left_none, turn_left, none_left}
use Rattle.cover_links.proofs.hiding.cover_in.Goals as goal

pub loop-init : goal.loop-init
unfolding options_hidden
loop-init c = record { place = refl; left = left_begin hiding c.args.item refl c.read-head.ensures c.index-end.ensures c.requires.can.options }

pub hide-requires-clause-can : goal.hide-requires-clause-can
hide-requires-clause-can c = left_can hiding c.loop.invariant.left (turn_left c.index-end.result c.loop.counter c.loop-test.true)

pub read-node-requires-clause-within : goal.read-node-requires-clause-within
read-node-requires-clause-within c = left_low hiding c.loop.invariant.left (turn_left c.index-end.result c.loop.counter c.loop-test.true) c.hide.ensures.entries

pub loop-preserved : goal.loop-preserved
loop-preserved c = record {
  place = c.hide.ensures.place ∙ c.loop.invariant.place;
  left = left_on hiding c.loop.invariant.left (turn_left c.index-end.result c.loop.counter c.loop-test.true) c.hide.ensures.entries c.read-node.ensures;
}

pub unlink_item-requires-clause-can : goal.unlink_item-requires-clause-can
unlink_item-requires-clause-can c =
    subst (λ es. IsItemInside es c.args.item) (sym (left_none hiding c.loop.invariant.left (none_left c.index-end.result c.loop.counter c.loop-test.false))) c.requires.can.row

pub returns-clause-entries : goal.returns-clause-entries
unfolding item_covered
returns-clause-entries c =
    c.unlink_item.ensures.entries ∙ ap (λ es. item_unlinked es c.args.item) (left_none hiding c.loop.invariant.left (none_left c.index-end.result c.loop.counter c.loop-test.false))
