-- What a seat knows: what it pushed and what it took, deque by deque.
use Rattle.std.specs.Prelude.{ℕ, zero, suc, ◌-◌, ◌+◌, ◌≡◌, ◌<◌, List, [], ◌∷◌, ◌++◌, cond, nat_lt, length, map, slice_set, slice_index_or, Option, MatchOption, Result, IfErr}
use Rattle.lab_tickets.specs.declared.rule.Tally.{Tally}
use Rattle.lab_tickets.specs.Rule.{tally}

-- a seat's number, its view, and which deques are meant
pub record TicketView : Type 0 where
  -- the seat's number, from 0
  pub number : ℕ
  -- what it pushed to its own deque, and took from it
  pub own : Tally
  -- what it took from the deques of the other seats, in the order of their numbers
  pub others : List Tally
  -- which deque is its own
  pub deque : ℕ × ℕ
  -- which deques are those of the others, in the same order
  pub deques : List (ℕ × ℕ)

-- how many seats there are, this one with the others
abbrev pub seat_count : TicketView → ℕ
seat_count s = length s.others + 1

-- a ticket joins those that the seat pushed to a deque
abbrev pub put : Tally → ℕ → Tally
put t x = tally (t.pushed ++ x ∷ []) t.taken

-- a ticket joins those that the seat took from a deque
abbrev pub took : Tally → ℕ → Tally
took t x = tally t.pushed (t.taken ++ x ∷ [])

-- a call answers a ticket, and leaves what its taking makes of this; or it answers none, and nothing has changed
abbrev pub TakesAs : {S : Type 0} → Option ℕ → S → S → (ℕ → S) → Type 0
TakesAs result old new taking = MatchOption result (new ≡ old) (λ x. new ≡ taking x)

-- a call hands the ticket back where it has no room for it, and nothing has changed
abbrev pub HandsBack : {X S : Type 0} → Result X ℕ → ℕ → S → S → Type 0
HandsBack result x old new = IfErr result (λ y. (y ≡ x) × (new ≡ old))

-- a call takes the ticket that it answers from a deque, or nothing where it answers none
abbrev pub TakesTicket : Option ℕ → Tally → Tally → Type 0
TakesTicket result old new = TakesAs result old new (took old)

-- a ticket joins those that the seat pushed to its own deque
abbrev pub pushed : TicketView → ℕ → TicketView
pushed s x = record s { own = put s.own x }

-- a ticket joins those that the seat took from its own deque
abbrev pub popped : TicketView → ℕ → TicketView
popped s x = record s { own = took s.own x }

-- the place of another seat among the others of a seat
abbrev pub place_among : ℕ → ℕ → ℕ
place_among number from = cond (nat_lt from number) from (from - 1)

-- the tally at a place
abbrev pub tally_at : List Tally → ℕ → Tally
tally_at tallies k = slice_index_or tallies k (tally [] [])

-- a ticket joins those that the seat took from the deque of another seat, whose number is given
abbrev pub stolen : TicketView → ℕ → ℕ → TicketView
stolen s from x = record s { others = slice_set s.others (place_among s.number from) (took (tally_at s.others (place_among s.number from)) x) }

-- so many deques from which nothing is taken yet
abbrev pub blanks : ℕ → List Tally
blanks zero = []
blanks (suc k) = tally [] [] ∷ blanks k

-- all deques but the one at a place
abbrev pub all_but : ℕ → List (ℕ × ℕ) → List (ℕ × ℕ)
all_but k [] = []
all_but zero (x ∷ xs) = xs
all_but (suc k) (x ∷ xs) = x ∷ all_but k xs

-- the one seat where there is no other, which has done nothing yet
abbrev pub lone_seat : ℕ × ℕ → TicketView
lone_seat deque = record { number = 0; own = tally [] []; others = []; deque = deque; deques = [] }

-- a seat with a number among the seats that have these deques, of which it has stolen from none
abbrev pub among : ℕ → List (ℕ × ℕ) → TicketView → TicketView
among number all s = record s { number = number; others = blanks (length all - 1); deques = all_but number all }

-- the seat of a number among the seats that have these deques, which has done nothing yet
abbrev pub new_seat : List (ℕ × ℕ) → ℕ → TicketView
new_seat all number = among number all (lone_seat (slice_index_or all number (0, 0)))

-- which deque is the seat's own
abbrev pub deque_of : TicketView → ℕ × ℕ
deque_of s = s.deque

-- the deques of all seats of a row but the one at a place
abbrev pub other_deques : ℕ → List TicketView → List (ℕ × ℕ)
other_deques k seats = all_but k (map deque_of seats)

-- the seat at a place of a row
abbrev pub seat_at : List TicketView → ℕ → TicketView
seat_at seats k = slice_index_or seats k (lone_seat (0, 0))

-- the first n seats of a row have done nothing yet
abbrev pub AreFresh : ℕ → List TicketView → Type 0
AreFresh n seats = (k : ℕ) → k < n → seat_at seats k ≡ new_seat (map deque_of seats) k

-- the row once the seat at a place has its number and the deques of the others
abbrev pub with_joined : ℕ → List TicketView → List TicketView
with_joined k seats = slice_set seats k (among k (map deque_of seats) (seat_at seats k))
