use Rattle.std.proofs.Common.{ap, ◌∙◌}
use Rattle.cover_links.specs.declared.entry.TableEntry.{TableEntry}
use Rattle.cover_links.specs.Entries.{changed, to_down, to_up, unlinked}
use Rattle.cover_links.proofs.EntryLemmas.{written}
use Rattle.cover_links.proofs.hiding.unlink.Goals as goal

pub returns-clause-entries : goal.returns-clause-entries
unfolding unlinked
returns-clause-entries c =
    let es = c.args.row.now.entries in let node : TableEntry = c.read-up.result in
    let one = written (to_down node.down) es c.write.new.self.entries node.up c.read-above.result c.write.ensures.entries c.read-above.ensures in
    let two = written (to_up node.up) c.write.new.self.entries c.write-2.new.self.entries node.down c.read-below.result c.write-2.ensures.entries c.read-below.ensures in
    two ∙ ap (λ fs. changed (to_up node.up) fs node.down) one
    ∙ ap (λ (k : TableEntry). changed (to_up k.up) (changed (to_down k.down) es k.up) k.down) c.read-up.ensures
