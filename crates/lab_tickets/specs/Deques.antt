-- What a seat knows of another seat's deque.
use Rattle.std.specs.Prelude.{ℕ, List, map}
use Rattle.crossbeam_deque.specs.Handles.{view, stealer_deque}
use Rattle.lab_tickets.specs.declared.rule.Tally.{Tally}
use Rattle.lab_tickets.specs.declared.deques.OtherDeque.{OtherDeque}
use Rattle.lab_tickets.specs.TicketView.{TicketView}

-- what the seat took from it
abbrev pub tally_of : OtherDeque → Tally
tally_of d = view d.pass

-- which deque it is
abbrev pub source : OtherDeque → ℕ × ℕ
source d = (stealer_deque d.stealer).0

-- which deques these are
abbrev pub sources : List OtherDeque → List (ℕ × ℕ)
sources others = map source others

-- a seat has a number, and steals from these deques
abbrev pub joined : TicketView → ℕ → List OtherDeque → TicketView
joined s number others = record s { number = number; others = map tally_of others; deques = map source others }
