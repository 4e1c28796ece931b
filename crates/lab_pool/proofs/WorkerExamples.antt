-- The examples of specs/Worker.antt.
use Rattle.std.proofs.Common.{◌≡◌, ℕ, Some, Option, List, [], ◌∷◌, map, Result, Ok, inl, inr, ap, refl, sym, ◌∙◌, arith}
use Rattle.lab_history.specs.declared.grant.Grant.{Grant}
use Rattle.lab_history.specs.declared.entry.Call.TheVariants as call
use Rattle.lab_history.specs.declared.ending.Ending.TheVariants as ending
use Rattle.lab_history.specs.declared.entry.Reply.TheVariants as reply
use Rattle.lab_history.specs.declared.fault.BookFault.TheVariants as fault
use Rattle.lab_history.specs.declared.kind.CallKind.{CallKind}
use Rattle.lab_history.specs.declared.kind.CallKind.TheVariants as kind
use Rattle.lab_history.specs.Kinds.{kind_of}
use Rattle.lab_book.specs.declared.lease.Leased.{Leased}
use Rattle.lab_desk.specs.declared.seat.Noted.{Noted}
use Rattle.lab_desk.specs.Record.{SeatValue, noted, call_entry}
use Rattle.lab_pool.specs.declared.search.Next.TheVariants as next
use Rattle.lab_pool.specs.Worker.{ending_for, next_after, EndsTile, EndsIn, Abandons, HasLeft, IfLeased, IsLeasedTo, KeepsSeat}

-- worker 0's lease of a tile, by the entry 3
abbrev lease : Grant
lease = record { id = 1; worker = 0; index = 3 }

-- a seat of which one lease is noted to be closed
abbrev closed : SeatValue
closed = record { number = 0; notes = noted 4 (call_entry 0 (call.Close lease) reply.Done) ∷ []; kept = 0 }

by_its_close : ending_for next.Done ≡ ending.Close
by_its_close = refl

is_ended : EndsTile next.Done closed lease
is_ended = ([], (4, refl))

-- what a seat's calls asked for
abbrev asked : List Noted → List CallKind
asked ns = map (λ (n : Noted). kind_of n.entry.call) ns

not_parked : ¬ EndsTile next.Stop closed lease
not_parked ([], n) = let e : kind.Close ∷ [] ≡ kind.Park ∷ [] = ap asked n.1 in absurd (cc)
not_parked (x ∷ [], n) = let e = n.1 in absurd (cc)
not_parked (x ∷ y ∷ l, n) = let e = n.1 in absurd (cc)

then_it_ends : next_after fault.NotWaiting ≡ next.Refused
then_it_ends = refl

-- a seat with no note
abbrev fresh : SeatValue
fresh = record { number = 0; notes = []; kept = 0 }

nothing_noted : ¬ EndsIn fresh (call.Close lease) reply.Done
nothing_noted ([], n) = let e = n.1 in absurd (cc)
nothing_noted (x ∷ l, n) = let e = n.1 in absurd (cc)

-- the tile that was closed isn't abandoned
not_abandoned : ¬ Abandons closed lease
not_abandoned ([], n) = let e : kind.Close ∷ [] ≡ kind.Abandon ∷ [] = ap asked n.1 in absurd (cc)
not_abandoned (x ∷ [], n) = let e = n.1 in absurd (cc)
not_abandoned (x ∷ y ∷ l, n) = let e = n.1 in absurd (cc)

-- a seat of which one lease is noted to be abandoned
abbrev abandoned : SeatValue
abandoned = record { number = 0; notes = noted 4 (call_entry 0 (call.Abandon lease) reply.Done) ∷ []; kept = 0 }

-- its tile was neither closed nor parked
not_left : ¬ HasLeft abandoned lease
not_left (inl ([], n)) = let e : kind.Abandon ∷ [] ≡ kind.Close ∷ [] = ap asked n.1 in absurd (cc)
not_left (inl (x ∷ [], n)) = let e = n.1 in absurd (cc)
not_left (inl (x ∷ y ∷ l, n)) = let e = n.1 in absurd (cc)
not_left (inr ([], n)) = let e : kind.Abandon ∷ [] ≡ kind.Park ∷ [] = ap asked n.1 in absurd (cc)
not_left (inr (x ∷ [], n)) = let e = n.1 in absurd (cc)
not_left (inr (x ∷ y ∷ l, n)) = let e = n.1 in absurd (cc)

by_its_park : ending_for next.Stop ≡ ending.Park
by_its_park = refl

-- of what was leased not everything is true
abbrev leased_five : Result (Option ℕ) ℕ
leased_five = Ok (Some 5)

not_six : ¬ IfLeased leased_five (λ n. n ≡ 6)
not_six h = let e : 5 ≡ 6 = h in omega (arith, e)

-- a seat that is another one afterwards isn't kept
abbrev another : SeatValue
another = record { number = 1; notes = []; kept = 0 }

not_kept : ¬ KeepsSeat fresh another
not_kept k = let e : 1 ≡ 0 = k.0 in omega (arith, e)

-- what worker 0 leased isn't leased to another worker's seat
not_leased_to : (l : Leased) → l.lease.worker ≡ 0 → ¬ IsLeasedTo another l
not_leased_to l w h = let e : 0 ≡ 1 = sym w ∙ h.0 in omega (arith, e)
