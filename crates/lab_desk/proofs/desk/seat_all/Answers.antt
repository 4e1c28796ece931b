use Rattle.std.proofs.Common.{◌∙◌, sym, ap, subst, arith}
use Rattle.lab_desk.specs.Seats.{AreNewSeats}
use Rattle.lab_desk.proofs.NewSeatLemmas.{new_seats_more}
use Rattle.lab_desk.proofs.desk.seat_all.Goals as goal

pub seating-preserved : goal.seating-preserved
seating-preserved g c =
    let i = c.seating.invariant in let e = c.new_part.ensures in let p = c.push_reserved.ensures in
    let long = c.seating.seats.ok.0 in let made = ap (λ k. k.made) e.keeper in (
      omega (arith, i.0, made),
      ap (λ k. k.all) e.keeper ∙ i.1,
      omega (arith, i.2, p.len),
      omega (arith, i.3, p.capacity),
      subst AreNewSeats (sym p.items) (new_seats_more c.seating.seats.items c.seating.k c.new.result (omega (arith, i.2, long)) i.4 c.new.ensures),
    )
