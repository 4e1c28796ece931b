use Rattle.std.proofs.Common.{◌≡◌, ◌-◌, map, take, cond, nat_lt}
use Rattle.lab_tickets.specs.Deques.{tally_of, source}
use Rattle.lab_tickets.specs.TicketView.{blanks, all_but, deque_of}
use Rattle.lab_tickets.proofs.table.others_of.Given as goal

abbrev pub invariant-loop-j : goal.invariant-loop-j
invariant-loop-j l = (map tally_of l.others.items ≡ blanks (l.j - cond (nat_lt l.number l.j) 1 0)) × (map source l.others.items ≡ all_but l.number (take l.j (map deque_of l.seats.items)))
