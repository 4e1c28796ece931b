use Rattle.std.proofs.Common.{ℕ, List, set, subst, sym, ◌∙◌}
use Rattle.cover_links.specs.declared.entry.TableEntry.{TableEntry}
use Rattle.cover_links.specs.Entries.{low_half, high_half}
use Rattle.cover_links.specs.Hiding.{node_unhidden}
use Rattle.cover_links.specs.Fresh.{node_appended}
use Rattle.cover_links.specs.Safety.{CanUnhideNode}
use Rattle.cover_links.proofs.build.append_node.Goals as goal

pub append_to_list-requires : goal.append_to_list-requires
append_to_list-requires c =
    let w = c.write.ensures
    ∙ (λ v. set c.args.block.now c.args.index (record { top = c.at-head.ensures v; up = (c.read-up.ensures v).up; down = c.at-head.ensures v; left = low_half c.args.next; right = high_half c.args.next })) in
    subst (λ (k : List TableEntry × ℕ). CanUnhideNode k.0 k.1) (λ v. (sym w v, sym c.at.ensures v)) c.requires.into

pub returns : goal.returns
unfolding node_appended
returns c =
    let w = c.write.ensures
    ∙ (λ v. set c.args.block.now c.args.index (record { top = c.at-head.ensures v; up = (c.read-up.ensures v).up; down = c.at-head.ensures v; left = low_half c.args.next; right = high_half c.args.next })) in
    c.append_to_list.ensures ∙ (λ v. node_unhidden (w v) (c.at.ensures v))
