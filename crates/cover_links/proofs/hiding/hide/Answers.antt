use Rattle.std.proofs.Common.{◌∙◌, ap, refl, subst, sym}
use Rattle.cover_links.specs.Entries.{next_of, HasNext}
use Rattle.cover_links.proofs.TurnLemmas.{hiding, hide_begin, goes_end, goes_can, goes_low, goes_link, goes_on, goes_down}
use Rattle.cover_links.proofs.hiding.hide.Goals as goal

pub read-requires-clause-within : goal.read-requires-clause-within
read-requires-clause-within c = c.requires.can.round.here

pub next_of-node-requires : goal.next_of-node-requires
next_of-node-requires c = subst HasNext (sym c.read.ensures) c.requires.can.round.link

pub loop-base-init : goal.loop-base-init
loop-base-init c = record { place = refl; goes = hide_begin c.requires.can (c.next_of-node.ensures ∙ ap next_of c.read.ensures) }

pub hide_node-requires-clause-can : goal.hide_node-requires-clause-can
hide_node-requires-clause-can c = goes_can hiding c.loop-base.invariant.goes (c.is.ensures.apart c.loop-base-test.true)

pub read-requires-in-loop-base-clause-within : goal.read-requires-in-loop-base-clause-within
read-requires-in-loop-base-clause-within c = goes_low hiding c.loop-base.invariant.goes (c.is.ensures.apart c.loop-base-test.true) c.hide_node.ensures.entries

pub next_of-node-requires-in-loop-base : goal.next_of-node-requires-in-loop-base
next_of-node-requires-in-loop-base c = goes_link hiding c.loop-base.invariant.goes (c.is.ensures.apart c.loop-base-test.true) c.hide_node.ensures.entries c.read-in-loop-base.ensures

pub loop-base-preserved : goal.loop-base-preserved
loop-base-preserved c = record {
  place = c.hide_node.ensures.place ∙ c.loop-base.invariant.place;
  goes = goes_on hiding c.loop-base.invariant.goes (c.is.ensures.apart c.loop-base-test.true) c.hide_node.ensures.entries c.read-in-loop-base.ensures c.next_of-node-in-loop-base.ensures;
}

pub loop-base-smaller : goal.loop-base-smaller
loop-base-smaller c = goes_down hiding c.loop-base.invariant.goes (c.is.ensures.apart c.loop-base-test.true) c.hide_node.ensures.entries c.read-in-loop-base.ensures c.next_of-node-in-loop-base.ensures

pub returns-clause-entries : goal.returns-clause-entries
returns-clause-entries c = goes_end hiding c.loop-base.invariant.goes (c.is.ensures.same c.loop-base-test.false)
