-- The examples of specs/Record.antt and specs/Seats.antt, computed.
use Rattle.std.proofs.Common.{◌≡◌, ℕ, zero, suc, true, false, Some, None, Ok, Err, List, [], ◌∷◌, length, get_or, refl, ap, subst, inl, inr, arith}
use Rattle.std.proofs.lemmas.Option.{same_Some}
use Rattle.cover_problem.specs.Problem.{ProblemValue}
use Rattle.cover_problem.specs.declared.fault.Refused.{Refused}
use Rattle.x_steps.specs.StateValue.{StateValue, start}
use Rattle.x_branches.specs.Branch.{whole_run}
use Rattle.x_branches.specs.Cut.{CutPath}
use Rattle.x_branches.specs.Stretch.{StretchValue}
use Rattle.lab_history.specs.declared.fault.BookFault.{BookFault}
use Rattle.lab_history.specs.declared.fault.BookFault.TheVariants.{NotWaiting}
use Rattle.lab_book.specs.declared.lease.Leased.{Leased}
use Rattle.lab_book.specs.declared.lease.Posted.{Posted}
use Rattle.lab_history.specs.declared.grant.Grant.{Grant}
use Rattle.lab_history.specs.declared.entry.Call.TheVariants as call
use Rattle.lab_history.specs.declared.entry.Reply.TheVariants as reply
use Rattle.lab_history.specs.declared.entry.Entry.{Entry}
use Rattle.lab_desk.specs.Record.{SeatValue, noted, call_entry, notes_of, shifted, holds, kept_from, KeepsRoomFor, Notes, NotesRefusal}
use Rattle.lab_desk.specs.Record.{NotesLease, NotesAnyLease, NotesDone, NotesFault, NotesRefused, NotesPost, NotesPostFault, NotesSplit}
use Rattle.lab_desk.specs.Record.{NotesSplitFault, NotesRetract, HoldsLease, HoldsAnyLease, HoldsOthers}
use Rattle.lab_desk.specs.Seats.{HaveAllNumbers, AreAllSeats, AllStand, are_of_workers, AreRecordsFrom, AreRecordsAfter}

-- worker 0's lease of the whole run
abbrev lease : Grant
lease = record { id = 0; worker = 0; index = 0 }

abbrev zero_leases : Entry
zero_leases = call_entry 0 call.LeaseAny (reply.Leased lease None None start 0)

abbrev one_gets_none : Entry
one_gets_none = call_entry 1 call.LeaseAny reply.NoneWaits

abbrev zero_parks : Entry
zero_parks = call_entry 0 (call.Park lease) reply.Done

abbrev entries : List Entry
entries = zero_leases ∷ one_gets_none ∷ zero_parks ∷ []

-- ---- specs/Record.antt

notes_of_zero : notes_of 0 0 entries ≡ noted 0 zero_leases ∷ noted 2 zero_parks ∷ []
notes_of_zero = refl

-- counted from the entry 1 on, the second entry is the first
counted_from : shifted 1 (notes_of 1 0 (one_gets_none ∷ [])) ≡ noted 1 one_gets_none ∷ []
counted_from = refl

-- after the first entry it holds the lease, and after its park none
held_first : holds (noted 0 zero_leases ∷ []) lease ≡ true
held_first = refl

held_then : holds (notes_of 0 0 entries) lease ≡ false
held_then = refl

count_first : kept_from 0 (noted 0 zero_leases ∷ []) ≡ 1
count_first = refl

-- and never one of another index
held_other : holds (noted 0 zero_leases ∷ []) (record lease { index = 1 }) ≡ false
held_other = refl

-- ---- specs/Seats.antt

abbrev seat : ℕ → SeatValue
seat number = record { number = number; notes = []; kept = 0 }

all_numbers : HaveAllNumbers 2 (seat 1 ∷ seat 0 ∷ [])
all_numbers (suc (suc k)) h = absurd (omega (arith, h))
all_numbers _ h = refl

below_two : are_of_workers 2 entries ≡ true
below_two = refl

not_below_one : are_of_workers 1 entries ≡ false
not_below_one = refl

-- ---- the notes of a seat and the entries of a history

-- worker 0's seat with the notes of all its entries
abbrev all_noted : SeatValue
all_noted = record { number = 0; notes = noted 0 zero_leases ∷ noted 2 zero_parks ∷ []; kept = 0 }

-- and with the last one alone
abbrev last_noted : SeatValue
last_noted = record { number = 0; notes = noted 2 zero_parks ∷ []; kept = 0 }

-- from the entry 1 on the history has one entry of the worker, and from the entry 0 on it has two
records_from_one : AreRecordsFrom 1 entries (last_noted ∷ [])
records_from_one zero s e = let same = same_Some last_noted s e in subst (λ (t : SeatValue). t.notes ≡ notes_of t.number 1 (one_gets_none ∷ zero_parks ∷ [])) same refl
records_from_one (suc i) s e = absurd (cc)

none_is_missing : ¬ AreRecordsFrom 0 entries (last_noted ∷ [])
none_is_missing r = let h = ap length (r 0 last_noted refl) in omega (arith, h)

none_is_too_many : ¬ AreRecordsAfter (zero_leases ∷ []) entries (all_noted ∷ [])
none_is_too_many r = let h = ap length (r 0 all_noted refl) in omega (arith, h)

-- one seat isn't all of two
not_by_half : ¬ AreAllSeats 2 (all_noted ∷ [])
not_by_half f = let h = f.count in omega (arith, h)

-- where there is no tile, no lease stands
none_stands : ¬ AllStand [] (zero_leases ∷ []) []
none_stands h = let e : false ≡ true = h lease refl in absurd (cc)

-- ---- what a call notes

-- worker 0's seat before its first call
abbrev idle : SeatValue
idle = seat 0

-- what it is answered to a lease of the whole run, by the entry 0
abbrev leased : StateValue → Leased
leased s = record { lease = lease; branch = whole_run; mark = s; waiting = 0 }

-- a lease is noted at its index, and not at the next one
not_at_the_next : ¬ Notes 0 [] (noted 1 zero_leases ∷ []) 0 call.LeaseAny (reply.Leased lease None None start 0)
not_at_the_next e = let h = ap (λ ns. (get_or ns 0 (noted 0 zero_leases)).index) e in omega (arith, h)

lease_is_noted : (s : StateValue) → ¬ NotesLease {E = ℕ} idle idle (call.Lease 0) (Ok (leased s))
lease_is_noted s e = let h = ap length e in omega (arith, h)

none_is_noted : ¬ NotesAnyLease {E = ℕ} idle idle (Ok None)
none_is_noted e = let h = ap length e.1 in omega (arith, h)

any_lease_is_noted : (s : StateValue) → ¬ NotesAnyLease {E = ℕ} idle idle (Ok (Some (leased s)))
any_lease_is_noted s e = let h = ap length e in omega (arith, h)

end_is_noted : ¬ NotesDone {X = ℕ} {E = ℕ} idle idle (call.Park lease) (Ok 0)
end_is_noted e = let h = ap length e.1 in omega (arith, h)

-- a refusal is noted, but that memory ran out
refusal_is_noted : (i : ℕ) → ¬ NotesRefusal i [] [] 0 (call.Lease 0) NotWaiting
refusal_is_noted i (inl p) = let e = p.0 in absurd (cc)
refusal_is_noted i (inr p) = let h = ap length p.1 in omega (arith, h)

fault_is_noted : ¬ NotesFault {X = ℕ} idle idle (call.Lease 0) (Err NotWaiting)
fault_is_noted e = refusal_is_noted e.0 e.1

abbrev given_back : Refused BookFault ℕ
given_back = record { fault = NotWaiting; given = 0 }

refused_is_noted : ¬ NotesRefused {X = ℕ} idle idle (call.Lease 0) (Err given_back)
refused_is_noted e = refusal_is_noted e.0 e.1

post_is_noted : (p : ProblemValue) (x : StretchValue) (r : Posted) → ¬ NotesPost {E = ℕ} p idle idle lease x (Ok r)
post_is_noted p x r e = let h = ap length e.1 in omega (arith, h)

post_fault_is_noted : (p : ProblemValue) (x : StretchValue) → ¬ NotesPostFault {X = ℕ} p idle idle lease x (Err given_back)
post_fault_is_noted p x (i, inl q) = let e = q.0 in absurd (cc)
post_fault_is_noted p x (i, inr q) = let h = ap length q.1 in omega (arith, h)

split_is_noted : (p : ProblemValue) (c : CutPath) → ¬ NotesSplit {E = ℕ} p idle idle lease c (Ok 1)
split_is_noted p c e = let h = ap length e.1 in omega (arith, h)

split_fault_is_noted : (p : ProblemValue) (c : CutPath) → ¬ NotesSplitFault {X = ℕ} p idle idle lease c (Err given_back)
split_fault_is_noted p c (i, inl q) = let e = q.0 in absurd (cc)
split_fault_is_noted p c (i, inr q) = let h = ap length q.1 in omega (arith, h)

retract_is_noted : (x : StretchValue) → ¬ NotesRetract {E = ℕ} idle idle lease (Ok x)
retract_is_noted x e = let h = ap length e.1 in omega (arith, h)

-- one lease more is counted where one was given, and none where none waits
one_is_counted : ¬ KeepsRoomFor {A = ℕ} (Some 5) idle idle
one_is_counted e = omega (arith, e)

none_is_counted : ¬ KeepsRoomFor {A = ℕ} None idle (record idle { kept = 1 })
none_is_counted e = omega (arith, e)

-- a lease that was given is held, and one that was parked isn't
lease_is_held : (s : StateValue) → ¬ HoldsLease {E = ℕ} idle idle (Ok (leased s))
lease_is_held s h = let e = ap length h.0 in omega (arith, e)

any_lease_is_held : (s : StateValue) → ¬ HoldsAnyLease {E = ℕ} idle idle (Ok (Some (leased s)))
any_lease_is_held s h = let e = ap length h.0 in omega (arith, e)

-- a seat that was leased the whole run
abbrev holding : SeatValue
holding = record { number = 0; notes = noted 0 zero_leases ∷ []; kept = 1 }

end_is_held : ¬ HoldsOthers {X = ℕ} {E = ℕ} holding holding lease (Ok 0)
end_is_held h = let e = ap length h.0 in omega (arith, e)
