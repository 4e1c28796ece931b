use Rattle.std.proofs.Common.{◌*◌, ap, ◌∙◌}
use Rattle.cover_links.specs.declared.entry.TableEntry.{TableEntry}
use Rattle.cover_links.specs.Entries.{entry_at}
use Rattle.cover_links.proofs.TableLemmas.{at_view, entry_low}
use Rattle.cover_links.proofs.table.LinkTable.head_after.Goals as goal

pub read_at-requires : goal.read_at-requires
read_at-requires c = let head = c.requires in (head.0, head.1, entry_low (at_view c.self.view_is c.self.invariant) head.0 head.2)

pub returns : goal.returns
returns c i at =
    let t = at_view c.self.view_is c.self.invariant in
    ap (λ (e : TableEntry). e.right * 16) (c.read_at.ensures i at) ∙ ap (λ es. (entry_at es i).right * 16) t.block_is
