use Rattle.std.proofs.Common.{◌≡◌, ℕ, ◌*◌, ◌/◌}
use Rattle.cover_links.specs.Entries.{entry_at}
use Rattle.cover_links.specs.StandsFor.{block_of}
use Rattle.cover_links.proofs.RowWalk.{ComesTo, turns}
use Rattle.cover_links.proofs.table.LinkTableTable.choose.Given as goal

abbrev pub invariant-loop-self : goal.invariant-loop-self
invariant-loop-self l =
    (i best : ℕ) × (l.here ≡ i * 16) × (l.best ≡ best * 16) × (l.len ≡ (entry_at (block_of l.self.problem l.self.covered) i).top)
    × ComesTo l.self.problem l.self.covered i best l.least

abbrev pub decreases-loop-self : goal.decreases-loop-self
decreases-loop-self l = turns l.self.problem (l.here / 16)
