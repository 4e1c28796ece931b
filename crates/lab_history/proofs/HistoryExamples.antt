-- The examples of faults, kinds of calls, entries and histories, computed.
use Rattle.std.proofs.Common.{◌≡◌, Some, None, [], ◌∷◌, codes, length, true, false, refl}
use Rattle.x_steps.specs.StateValue.{start}
use Rattle.lab_history.specs.declared.fault.BookFault.TheVariants.{StaleLease, OutOfMemory}
use Rattle.lab_history.specs.declared.entry.Call.TheVariants as call
use Rattle.lab_history.specs.declared.entry.Reply.TheVariants as reply
use Rattle.lab_history.specs.declared.entry.Entry.{Entry}
use Rattle.lab_history.specs.declared.kind.CallKind.TheVariants as kind
use Rattle.lab_history.specs.declared.ending.Ending.TheVariants as ending
use Rattle.lab_history.specs.Faults.{number_of, name_of}
use Rattle.lab_history.specs.Kinds.{kind_of}
use Rattle.lab_history.specs.EntryCode.{grant_code, grant_of, call_code, call_of, call_rest, reply_code, reply_of, entry_code, entry_of}
use Rattle.lab_history.specs.Ending.{call_of_end, is_at_mark}
use Rattle.lab_history.specs.History.{HistoryValue}

-- ---- specs/EntryCode.antt

-- worker 2 gives the tile 0 up, by the lease of the entry 7
abbrev gives_up : Entry
gives_up = record { worker = 2; call = call.Park (record { id = 0; worker = 2; index = 7 }); reply = reply.Done }

coded : entry_code gives_up ≡ 2 ∷ 6 ∷ 0 ∷ 2 ∷ 7 ∷ 5 ∷ []
unfolding entry_code call_code grant_code reply_code
coded = refl

read_back : entry_of (2 ∷ 6 ∷ 0 ∷ 2 ∷ 7 ∷ 5 ∷ []) ≡ gives_up
unfolding entry_of call_of call_rest grant_of reply_of
read_back = refl

-- ---- specs/Kinds.antt

its_kind : kind_of (call.Lease 3) ≡ kind.Lease
its_kind = refl

-- ---- specs/Ending.antt

by_its_park : call_of_end ending.Park (record { id = 0; worker = 2; index = 7 }) ≡ call.Park (record { id = 0; worker = 2; index = 7 })
by_its_park = refl

parks_at_its_mark : is_at_mark ending.Park ≡ true
parks_at_its_mark = refl

closes_at_its_end : is_at_mark ending.Close ≡ false
closes_at_its_end = refl

-- ---- specs/Faults.antt

stale_number : number_of (StaleLease start) ≡ Some 3
stale_number = refl

stale_name : name_of (StaleLease start) ≡ codes "StaleLease"
stale_name = refl

no_number : number_of OutOfMemory ≡ None
no_number = refl

-- ---- specs/History.antt

abbrev one_lease : HistoryValue
one_lease = record { entries = gives_up ∷ []; kept = 1 }

one_entry : length one_lease.entries ≡ 1
one_entry = refl
