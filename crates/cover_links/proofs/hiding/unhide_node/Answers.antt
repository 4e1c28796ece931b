use Rattle.std.proofs.Common.{ℕ, set, ap, ◌∙◌, subst, sym}
use Rattle.cover_links.specs.declared.entry.TableEntry.{TableEntry}
use Rattle.cover_links.specs.Entries.{changed, one_more, relinked}
use Rattle.cover_links.specs.Hiding.{node_unhidden}
use Rattle.cover_links.specs.Safety.{IsInside}
use Rattle.cover_links.proofs.EntryLemmas.{written}
use Rattle.cover_links.proofs.hiding.unhide_node.Goals as goal

pub relink-requires-clause-can : goal.relink-requires-clause-can
relink-requires-clause-can c =
    let es = c.args.row.now.entries in let node : TableEntry = c.read-item.result in let head : TableEntry = c.read-head.result in
    let wrote = c.write.ensures.entries ∙ ap (λ (n : ℕ). set es node.top (record head { top = n })) c.plus.ensures in
    let w = written one_more es c.write.new.self.entries node.top head wrote c.read-head.ensures ∙ ap (λ (k : TableEntry). changed one_more es k.top) c.read-item.ensures in
    subst (λ fs. IsInside fs c.args.index) (sym w) c.requires.can.inside

pub returns-clause-entries : goal.returns-clause-entries
unfolding node_unhidden
returns-clause-entries c =
    let es = c.args.row.now.entries in let node : TableEntry = c.read-item.result in let head : TableEntry = c.read-head.result in
    let wrote = c.write.ensures.entries ∙ ap (λ (n : ℕ). set es node.top (record head { top = n })) c.plus.ensures in
    let w = written one_more es c.write.new.self.entries node.top head wrote c.read-head.ensures ∙ ap (λ (k : TableEntry). changed one_more es k.top) c.read-item.ensures in
    c.relink.ensures.entries ∙ ap (λ fs. relinked fs c.args.index) w
