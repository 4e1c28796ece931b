use Rattle.std.proofs.Common.{ℕ, set, ap, ◌∙◌}
use Rattle.cover_links.specs.declared.entry.TableEntry.{TableEntry}
use Rattle.cover_links.specs.Entries.{changed, to_right, to_left, item_relinked}
use Rattle.cover_links.proofs.EntryLemmas.{written}
use Rattle.cover_links.proofs.hiding.relink_item.Goals as goal

pub returns-clause-entries : goal.returns-clause-entries
unfolding item_relinked
returns-clause-entries c =
    let es = c.args.row.now.entries in let node : TableEntry = c.read-left.result in
    let left = c.write.ensures.entries ∙ ap (λ (n : ℕ). set es c.at-place.result (to_right n c.read-before.result)) c.index-number.ensures in
    let right = c.write-2.ensures.entries ∙ ap (λ (n : ℕ). set c.write.new.self.entries c.at-place-2.result (to_left n c.read-after.result)) c.index-number.ensures in
    let one = written (to_right c.args.item) es c.write.new.self.entries c.at-place.result c.read-before.result left c.read-before.ensures ∙ ap (changed (to_right c.args.item) es) c.at-place.ensures in
    let two = written (to_left c.args.item) c.write.new.self.entries c.write-2.new.self.entries c.at-place-2.result c.read-after.result right c.read-after.ensures ∙ ap (changed (to_left c.args.item) c.write.new.self.entries) c.at-place-2.ensures in
    two ∙ ap (λ fs. changed (to_left c.args.item) fs node.right) one
    ∙ ap (λ (k : TableEntry). changed (to_left c.args.item) (changed (to_right c.args.item) es k.left) k.right) c.read-left.ensures
