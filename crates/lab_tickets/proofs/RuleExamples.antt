-- The rule of a deque, computed.
use Rattle.std.proofs.Common.{◌≡◌, ◌+◌, [], ◌∷◌, refl, arith}
use Rattle.lab_tickets.specs.Rule.{tally, times, times_taken, pushed_of, Balanced}
use Rattle.lab_tickets.specs.TicketView.{new_seat, place_among, all_but, stolen}

-- the owner pushed 7 and 9, another seat took 7, and 9 is left in the deque: 9 stands once on either side
nine_is_left : times 9 (pushed_of (tally (7 ∷ 9 ∷ []) [] ∷ tally [] (7 ∷ []) ∷ [])) ≡ times 9 (9 ∷ []) + times_taken 9 (tally (7 ∷ 9 ∷ []) [] ∷ tally [] (7 ∷ []) ∷ [])
nine_is_left = refl

-- and no rule holds where a seat took the 7 a second time
no_ticket_twice : ¬ Balanced (9 ∷ []) (tally (7 ∷ 9 ∷ []) [] ∷ tally [] (7 ∷ 7 ∷ []) ∷ [])
no_ticket_twice rule = omega (arith, rule 7)

-- nor where a seat took a ticket that nobody pushed
no_ticket_of_nobody : ¬ Balanced (9 ∷ []) (tally (7 ∷ 9 ∷ []) [] ∷ tally [] (8 ∷ []) ∷ [])
no_ticket_of_nobody rule = omega (arith, rule 8)

-- of three seats the seat 1 has the deques of 0 and 2, and that of 2 is the second of them
others_of_one : all_but 1 ((4, 0) ∷ (5, 0) ∷ (6, 0) ∷ []) ≡ (4, 0) ∷ (6, 0) ∷ []
others_of_one = refl

place_of_two : place_among 1 2 ≡ 1
place_of_two = refl

-- it takes 7 out of the deque of seat 2
one_steals : stolen (new_seat ((4, 0) ∷ (5, 0) ∷ (6, 0) ∷ []) 1) 2 7 ≡ record { number = 1; own = tally [] []; others = tally [] [] ∷ tally [] (7 ∷ []) ∷ []; deque = (5, 0); deques = (4, 0) ∷ (6, 0) ∷ [] }
one_steals = refl
