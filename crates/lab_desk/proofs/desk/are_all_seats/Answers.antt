use Rattle.std.proofs.Common.{arith}
use Rattle.lab_desk.proofs.desk.are_all_seats.Goals as goal

pub returns : goal.returns
returns g c = (
  (λ t. record { count = omega (arith, c.if-seats-n.false); numbers = c.have_all_numbers.ensures.0 t }),
  (λ a. c.have_all_numbers.ensures.1 a.numbers),
)
