use Rattle.std.proofs.Common.{◌≡◌, ◌+◌, ◌<◌, ◌-◌, ◌*◌, length}
use Rattle.cover_problem.proofs.ChoiceLemmas.{Walks}
use Rattle.cover_bits.proofs.WalkLemmas.{IsAhead}
use Rattle.cover_bits.proofs.table.BitTable.shortest.Given as goal

abbrev pub invariant-loop-least : goal.invariant-loop-least
invariant-loop-least l =
    Walks l.self.problem l.self.covered (l.number + 1) (l.best + 1) l.least × (l.rest.place < length l.self-inside.active.items)
    × IsAhead l.self-inside.active.items l.rest (l.number + 1) × (l.rest.first ≡ 64 * l.rest.place)

abbrev pub decreases-loop-least : goal.decreases-loop-least
decreases-loop-least l = l.self.problem.primary - (l.number + 1)
