use Rattle.std.proofs.Common.{◌≡◌, ℕ, ◌-◌, ◌*◌, ◌≤◌, ◌<◌}
use Rattle.cover_links.specs.Layout.{start_of, node_index, spacer_of}
use Rattle.cover_links.proofs.table.LinkTable.node_of.Given as goal

-- the walk has come to the entry x of the option, or to its spacer; behind the item's node that one is kept
abbrev pub invariant-loop-self : goal.invariant-loop-self
invariant-loop-self l =
    (x : ℕ) × (l.past ≡ x * 16) × (start_of l.self.problem (l.option - 1) ≤ x) × (x ≤ spacer_of l.self.problem l.option)
    × (node_index l.self.problem l.item l.option < x → l.here ≡ node_index l.self.problem l.item l.option * 16)

abbrev pub decreases-loop-self : goal.decreases-loop-self
decreases-loop-self l = spacer_of l.self.problem l.option * 16 - l.past
