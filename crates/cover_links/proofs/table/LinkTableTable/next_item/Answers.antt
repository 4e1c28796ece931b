use Rattle.std.proofs.Common.{inr, ap, ◌∙◌}
use Rattle.cover_links.specs.declared.entry.TableEntry.{TableEntry}
use Rattle.cover_links.specs.Table.{nonzero}
use Rattle.cover_links.proofs.TableLemmas.{at_view, active_low, row_next, is_active}
use Rattle.cover_links.proofs.table.LinkTableTable.next_item.Goals as goal

pub read-requires : goal.read-requires
read-requires c = active_low (at_view c.self.view_is c.self.invariant) c.args.item c.requires

pub returns : goal.returns
returns c =
    let t = at_view c.self.view_is c.self.invariant in
    c.nonzero.ensures ∙ ap (λ (e : TableEntry). nonzero e.right) c.read.ensures ∙ row_next t c.args.item (inr (is_active t c.args.item c.requires))
