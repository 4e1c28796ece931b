use Rattle.std.proofs.Common.{◌≡◌, ◌≤◌, [], vec_len}
use Rattle.std.specs.Vec.{vec_capacity}
use Rattle.lab_desk.specs.Seats.{AreNewSeats}
use Rattle.lab_desk.proofs.desk.seat_all.Given as goal

abbrev pub invariant-seating : goal.invariant-seating
invariant-seating g l = (l.keeper.made ≡ l.k) × (l.keeper.all ≡ []) × (vec_len l.seats ≡ l.k) × (l.n ≤ vec_capacity l.seats) × AreNewSeats l.seats.items
