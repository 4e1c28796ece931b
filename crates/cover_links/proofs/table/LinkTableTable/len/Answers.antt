use Rattle.std.proofs.Common.{ap, ◌∙◌}
use Rattle.cover_links.specs.declared.entry.TableEntry.{TableEntry}
use Rattle.cover_links.proofs.TableLemmas.{at_view, item_low, length_is}
use Rattle.cover_links.proofs.table.LinkTableTable.len.Goals as goal

pub read-requires : goal.read-requires
read-requires c = item_low (at_view c.self.view_is c.self.invariant) c.args.item c.requires.within

pub returns : goal.returns
returns c = c.index.ensures ∙ ap (λ (e : TableEntry). e.top) c.read.ensures ∙ length_is (at_view c.self.view_is c.self.invariant) c.args.item c.requires.some c.requires.within
