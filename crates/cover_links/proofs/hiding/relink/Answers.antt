use Rattle.std.proofs.Common.{ap, ◌∙◌}
use Rattle.cover_links.specs.declared.entry.TableEntry.{TableEntry}
use Rattle.cover_links.specs.Entries.{changed, to_down, to_up, relinked}
use Rattle.cover_links.proofs.EntryLemmas.{written}
use Rattle.cover_links.proofs.hiding.relink.Goals as goal

pub returns-clause-entries : goal.returns-clause-entries
unfolding relinked
returns-clause-entries c =
    let es = c.args.row.now.entries in let node : TableEntry = c.read-up.result in
    let one = written (to_down c.args.index) es c.write.new.self.entries node.up c.read-above.result c.write.ensures.entries c.read-above.ensures in
    let two = written (to_up c.args.index) c.write.new.self.entries c.write-2.new.self.entries node.down c.read-below.result c.write-2.ensures.entries c.read-below.ensures in
    two ∙ ap (λ fs. changed (to_up c.args.index) fs node.down) one
    ∙ ap (λ (k : TableEntry). changed (to_up c.args.index) (changed (to_down c.args.index) es k.up) k.down) c.read-up.ensures
