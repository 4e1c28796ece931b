use Rattle.std.proofs.Common.{◌≡◌}
use Rattle.lab_desk.specs.Record.{held_in}
use Rattle.lab_pool.proofs.search.Search.go_on.Given as goal

abbrev pub invariant-searching : goal.invariant-searching
invariant-searching g l = (goal.iterator-searching g).can_next l.iterator' × (goal.iterator-searching g).is_finite l.iterator'
    × (l.self.lease ≡ l.fn.self.lease) × (l.station.seat.now.number ≡ l.fn.station.seat.now.number)
    × (held_in l.station.seat.now.notes ≡ held_in l.fn.station.seat.now.notes)
    × (l.self.runner.problem ≡ l.fn.self.runner.problem)
