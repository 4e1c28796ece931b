use Rattle.std.proofs.Common.{ap, ◌∙◌}
use Rattle.cover_links.specs.declared.entry.TableEntry.{TableEntry}
use Rattle.cover_links.specs.Entries.{changed, to_right, to_left, item_unlinked}
use Rattle.cover_links.proofs.EntryLemmas.{written}
use Rattle.cover_links.proofs.hiding.unlink_item.Goals as goal

pub returns-clause-entries : goal.returns-clause-entries
unfolding item_unlinked
returns-clause-entries c =
    let es = c.args.row.now.entries in let node : TableEntry = c.read-left.result in
    let one = written (to_right node.right) es c.write.new.self.entries c.at-place.result c.read-before.result c.write.ensures.entries c.read-before.ensures ∙ ap (changed (to_right node.right) es) c.at-place.ensures in
    let two = written (to_left node.left) c.write.new.self.entries c.write-2.new.self.entries c.at-place-2.result c.read-after.result c.write-2.ensures.entries c.read-after.ensures ∙ ap (changed (to_left node.left) c.write.new.self.entries) c.at-place-2.ensures in
    two ∙ ap (λ fs. changed (to_left node.left) fs node.right) one
    ∙ ap (λ (k : TableEntry). changed (to_left k.left) (changed (to_right k.right) es k.left) k.right) c.read-left.ensures
