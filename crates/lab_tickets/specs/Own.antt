-- What a call does to a seat's own deque, of which it knows what it pushed to it and took from it: it pushes a ticket (`PushesTicket`), hands
-- it back (`RefusesTicket`), or takes the oldest out (`PopsTicket`); and whose deque a thief takes from (`StealsFrom`).
use Rattle.std.specs.Prelude.{◌≡◌, ℕ, Option, Result, IfOk}
use Rattle.crossbeam_deque.specs.Handles.{worker_view, worker_deque, stealer_deque}
use Rattle.crossbeam_deque.specs.declared.handles.Worker.{Worker}
use Rattle.crossbeam_deque.specs.declared.handles.Stealer.{Stealer}
use Rattle.lab_tickets.specs.declared.rule.Tally.{Tally}
use Rattle.lab_tickets.specs.TicketView.{put, TakesTicket, HandsBack}

-- a call pushes the ticket to a deque, unless it has an error
abbrev pub PushesTicket : {A P X E : Type 0} → Result X E → Worker ℕ A Tally P → Worker ℕ A Tally P → ℕ → Type 0
PushesTicket result old new x = IfOk result (λ _. worker_view new ≡ put (worker_view old) x)

-- a call hands the ticket back where the deque has no room for it, and has pushed nothing
abbrev pub RefusesTicket : {A P X : Type 0} → Result X ℕ → Worker ℕ A Tally P → Worker ℕ A Tally P → ℕ → Type 0
RefusesTicket result old new x = HandsBack result x (worker_view old) (worker_view new)

-- a call takes the ticket that it answers out of a deque, or nothing where it answers none
abbrev pub PopsTicket : {A P : Type 0} → Option ℕ → Worker ℕ A Tally P → Worker ℕ A Tally P → Type 0
PopsTicket result old new = TakesTicket result (worker_view old) (worker_view new)

-- a thief takes from the deque that this owner has
abbrev pub StealsFrom : {A P : Type 0} → Stealer ℕ A Tally P → Worker ℕ A Tally P → Type 0
StealsFrom thief owner = stealer_deque thief ≡ worker_deque owner
