use Rattle.std.proofs.Common.{ℕ, set, ap, ◌∙◌}
use Rattle.cover_links.specs.declared.entry.TableEntry.{TableEntry}
use Rattle.cover_links.specs.Entries.{changed, one_less, unlinked}
use Rattle.cover_links.specs.Hiding.{node_hidden}
use Rattle.cover_links.proofs.EntryLemmas.{written}
use Rattle.cover_links.proofs.hiding.hide_node.Goals as goal

pub returns-clause-entries : goal.returns-clause-entries
unfolding node_hidden
returns-clause-entries c =
    let es = c.args.row.now.entries in let q = c.args.index in let node : TableEntry = c.read-item.result in let head : TableEntry = c.read-head.result in
    let wrote = c.write.ensures.entries ∙ ap (λ (n : ℕ). set c.unlink.new.row.entries node.top (record head { top = n })) c.minus.ensures in
    written one_less c.unlink.new.row.entries c.write.new.self.entries node.top head wrote c.read-head.ensures
    ∙ ap (λ fs. changed one_less fs node.top) c.unlink.ensures.entries ∙ ap (λ (k : TableEntry). changed one_less (unlinked es q) k.top) c.read-item.ensures
