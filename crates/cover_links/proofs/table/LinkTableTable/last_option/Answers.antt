use Rattle.std.proofs.Common.{refl, ◌∙◌, arith}
use Rattle.cover_links.proofs.TableLemmas.{by_head, at_view, block_small, item_low, last_leads}
use Rattle.cover_links.proofs.table.LinkTableTable.last_option.Goals as goal

pub read-node-requires : goal.read-node-requires
read-node-requires c = item_low (at_view c.self.view_is c.self.invariant) c.args.item c.requires.within

pub at-requires : goal.at-requires
at-requires c =
    let t = at_view c.self.view_is c.self.invariant in let low = item_low t c.args.item c.requires.within in let small = block_small t in omega arith

pub option_at-requires : goal.option_at-requires
option_at-requires c = let w = by_head c.at.ensures (last_leads (at_view c.self.view_is c.self.invariant) c.args.item c.requires.some c.requires.within c.read-node.ensures refl) in (w.0, w.1)

pub returns : goal.returns
returns c = let w = by_head c.at.ensures (last_leads (at_view c.self.view_is c.self.invariant) c.args.item c.requires.some c.requires.within c.read-node.ensures refl) in c.option_at.ensures w.0 w.1 ∙ w.2
