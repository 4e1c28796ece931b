use Rattle.std.proofs.Common.{◌≡◌, ℕ, ◌<◌, ◌≤◌, ◌-◌, ◌*◌, length}
use Rattle.cover_links.specs.Table.{IsNodeOf}
use Rattle.cover_links.proofs.table.option_at.Given as goal

abbrev pub invariant-loop-past : goal.invariant-loop-past
invariant-loop-past l =
    (y : ℕ) × (l.past ≡ y * 16) × (l.fn.node < y) × ((x k : ℕ) → IsNodeOf l.block l.fn.item l.fn.node x k → y ≤ x)

abbrev pub decreases-loop-past : goal.decreases-loop-past
decreases-loop-past l = length l.block * 16 - l.past
