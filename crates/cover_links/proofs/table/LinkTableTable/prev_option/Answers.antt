use Rattle.std.proofs.Common.{refl, ◌∙◌}
use Rattle.cover_problem.proofs.RemainingLemmas.{list_in}
use Rattle.cover_links.specs.Layout.{node_index}
use Rattle.cover_links.proofs.TableLemmas.{by_head, at_view, node_low, item_small, prev_from}
use Rattle.cover_links.proofs.table.LinkTableTable.prev_option.Goals as goal

pub node_of-here-requires : goal.node_of-here-requires
node_of-here-requires c =
    let q = list_in c.args.self.now.problem c.args.self.now.covered c.args.item c.args.option c.requires in
    record { some = q.1; within = q.2; has_item = q.0 }

pub read_at-node-requires : goal.read_at-node-requires
read_at-node-requires c = (
  node_index c.args.self.now.problem c.args.item c.args.option,
  c.node_of-here.ensures,
  node_low (at_view c.self.view_is c.self.invariant) c.args.item c.args.option c.requires refl,
)

pub at-requires : goal.at-requires
at-requires c =
    let q = list_in c.args.self.now.problem c.args.self.now.covered c.args.item c.args.option c.requires in
    item_small (at_view c.self.view_is c.self.invariant) c.args.item c.args.option q.1 q.2 q.0

pub option_at-requires : goal.option_at-requires
option_at-requires c = let w = by_head c.at.ensures (prev_from (at_view c.self.view_is c.self.invariant) c.args.item c.args.option c.requires refl (c.read_at-node.ensures (node_index c.args.self.now.problem c.args.item c.args.option) c.node_of-here.ensures) refl) in (w.0, w.1)

pub returns : goal.returns
returns c = let w = by_head c.at.ensures (prev_from (at_view c.self.view_is c.self.invariant) c.args.item c.args.option c.requires refl (c.read_at-node.ensures (node_index c.args.self.now.problem c.args.item c.args.option) c.node_of-here.ensures) refl) in c.option_at.ensures w.0 w.1 ∙ w.2
