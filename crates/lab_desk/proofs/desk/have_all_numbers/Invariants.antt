use Rattle.lab_desk.specs.Seats.{HaveAllNumbers}
use Rattle.lab_desk.proofs.desk.have_all_numbers.Given as goal

abbrev pub invariant-counting : goal.invariant-counting
invariant-counting g l = HaveAllNumbers l.k l.seats
