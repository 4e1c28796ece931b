-- What a call makes of a seat, computed, and what none makes.
use Rattle.std.proofs.Common.{◌≡◌, Some, None, [], ◌∷◌, length, slice_index, refl, ap, arith}
use Rattle.lab_tickets.specs.Rule.{tally}
use Rattle.lab_tickets.specs.declared.rule.Tally.{Tally}
use Rattle.lab_tickets.specs.declared.deques.OtherDeque.{OtherDeque}
use Rattle.lab_tickets.specs.Deques.{tally_of, source, joined}
use Rattle.lab_tickets.specs.TicketView.{TicketView, lone_seat, pushed, popped, TakesAs, TakesTicket}

-- the only seat, which pushed 7 and 9
abbrev seat : TicketView
seat = pushed (pushed (lone_seat (4, 0)) 7) 9

it_pushed : seat ≡ record { number = 0; own = tally (7 ∷ 9 ∷ []) []; others = []; deque = (4, 0); deques = [] }
it_pushed = refl

-- it takes 7 out again
it_popped : popped seat 7 ≡ record { number = 0; own = tally (7 ∷ 9 ∷ []) (7 ∷ []); others = []; deque = (4, 0); deques = [] }
it_popped = refl

-- it joins a row as the seat 1, beside another's deque, and what it did stays
it_joined : (other : OtherDeque) → joined seat 1 (other ∷ [])
    ≡ record { number = 1; own = tally (7 ∷ 9 ∷ []) []; others = tally_of other ∷ []; deque = (4, 0); deques = source other ∷ [] }
it_joined other = refl

-- that it popped 7 is so where 7 is answered and stands among the taken ones
seven_is_taken : TakesAs (Some 7) seat (popped seat 7) (popped seat)
seven_is_taken = refl

-- and not where 7 is answered but 9 stands there, nor where 9 is answered
not_nine : ¬ TakesAs (Some 7) seat (popped seat 9) (popped seat)
not_nine e = let h = ap (λ (s : TicketView). slice_index s.own.taken 0) e in omega (arith, h)

not_seven : ¬ TakesAs (Some 9) seat (popped seat 7) (popped seat)
not_seven e = let h = ap (λ (s : TicketView). slice_index s.own.taken 0) e in omega (arith, h)

-- where nothing is answered, nothing was taken
not_silently : ¬ TakesAs None seat (popped seat 7) (popped seat)
not_silently e = let h = ap (λ (s : TicketView). length s.own.taken) e in omega (arith, h)

not_silently_stolen : ¬ TakesTicket None (tally (7 ∷ []) []) (tally (7 ∷ []) (7 ∷ []))
not_silently_stolen e = let h = ap (λ (t : Tally). length t.taken) e in omega (arith, h)
