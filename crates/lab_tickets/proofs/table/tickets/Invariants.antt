use Rattle.std.proofs.Common.{◌≡◌, vec_len}
use Rattle.lab_tickets.proofs.JoinLemmas.{HaveJoined, AreAlone}
use Rattle.lab_tickets.proofs.table.tickets.Given as goal

abbrev pub invariant-loop-number : goal.invariant-loop-number
invariant-loop-number l = (vec_len l.seats ≡ l.number) × AreAlone 0 l.number l.seats.items

abbrev pub invariant-loop-k : goal.invariant-loop-k
invariant-loop-k l = (vec_len l.seats ≡ l.n) × HaveJoined l.k l.seats.items × AreAlone l.k l.n l.seats.items
