-- Lemmas on the steps that stay in the block.
use Rattle.std.proofs.Common.{◌≡◌, ℕ, List, length, length-set, ◌∙◌}
use Rattle.cover_links.specs.declared.entry.TableEntry.{TableEntry}
use Rattle.cover_links.specs.Entries.{entry_at, low_half, high_half}
use Rattle.cover_links.specs.Fresh.{node_written, node_appended}
use Rattle.cover_links.proofs.EntryLemmas.{length-node_unhidden}

pub length-node_appended : (es : List TableEntry) (x i next : ℕ) → length (node_appended es x i next) ≡ length es
unfolding node_appended
length-node_appended es x i next =
    length-node_unhidden (node_written es x i next) x ∙ length-set es x (record { top = i; up = (entry_at es i).up; down = i; left = low_half next; right = high_half next })
