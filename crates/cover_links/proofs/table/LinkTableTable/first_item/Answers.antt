use Rattle.std.proofs.Common.{inl, refl, ap, ◌∙◌, arith}
use Rattle.cover_links.specs.declared.entry.TableEntry.{TableEntry}
use Rattle.cover_links.specs.Table.{nonzero}
use Rattle.cover_links.proofs.TableLemmas.{at_view, item_low, row_next}
use Rattle.cover_links.proofs.table.LinkTableTable.first_item.Goals as goal

pub read-requires : goal.read-requires
read-requires c = item_low (at_view c.self.view_is c.self.invariant) 0 (omega arith)

pub returns : goal.returns
returns c = c.nonzero.ensures ∙ ap (λ (e : TableEntry). nonzero e.right) c.read.ensures ∙ row_next (at_view c.self.view_is c.self.invariant) 0 (inl refl)
