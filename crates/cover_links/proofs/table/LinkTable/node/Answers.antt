use Rattle.cover_links.proofs.TableLemmas.{at_view, entry_low}
use Rattle.cover_links.proofs.table.LinkTable.node.Goals as goal

pub read-entry-requires : goal.read-entry-requires
read-entry-requires c = entry_low (at_view c.self.view_is c.self.invariant) c.args.x c.requires.within
