-- What is noted at a seat of its calls: a note (`noted`), a seat and its notes (`SeatValue`); the notes that a history has for a worker
-- (`notes_of`); the leases that notes leave open (`held_in`, `holds`); and that one call more is noted (`Notes`, `NotesRefusal`), at the index
-- that its entry has in the history.
--
-- Example: worker 0 leases, then worker 1, for whom none waits, and then worker 0 parks: the notes of worker 0 are the entries 0 and 2. After
-- the first it holds that lease, and after the second none. proofs/DeskExamples.antt computes it.
use Rattle.std.specs.Prelude.{◌≡◌, ℕ, ◌+◌, ◌-◌, ◌==◌, ◌&&◌, ◌⊎◌, Bool, not, true, false, List, [], ◌∷◌, ◌++◌, cond, map}
use Rattle.std.specs.Prelude.{Option, MatchOption, Result, IfOk, IfErr, OnOk, OnErr}
use Rattle.std.specs.List.{filter, list_any}
use Rattle.cover_problem.specs.Problem.{ProblemValue}
use Rattle.cover_problem.specs.declared.fault.Refused.{Refused}
use Rattle.x_branches.specs.Cut.{CutPath}
use Rattle.x_branches.specs.Stretch.{StretchValue}
use Rattle.lab_book.specs.Calls.{post_of, split_of, posted_reply, leased_reply}
use Rattle.lab_history.specs.declared.grant.Grant.{Grant}
use Rattle.lab_book.specs.declared.lease.Posted.{Posted}
use Rattle.lab_book.specs.declared.lease.Leased.{Leased}
use Rattle.lab_history.specs.declared.entry.Call.{Call}
use Rattle.lab_history.specs.declared.entry.Call.TheVariants as call
use Rattle.lab_history.specs.declared.entry.Reply.{Reply}
use Rattle.lab_history.specs.declared.entry.Reply.TheVariants as reply
use Rattle.lab_history.specs.declared.entry.Entry.{Entry}
use Rattle.lab_history.specs.declared.fault.BookFault.{BookFault}
use Rattle.lab_history.specs.declared.fault.BookFault.TheVariants.{OutOfMemory}
use Rattle.lab_desk.specs.declared.seat.Noted.{Noted}

-- a note of the entry with an index
abbrev pub noted : ℕ → Entry → Noted
noted i e = record { index = i; entry = e }

-- a seat: its number, the notes of the calls made there, and how many leases were given to it and have not ended, each end counted
pub record SeatValue : Type 0 where
  pub number : ℕ
  pub notes : List Noted
  pub kept : ℕ

-- whether a call ends a lease
abbrev pub ends_lease : Call → Bool
ends_lease (call.Park g) = true
ends_lease (call.Abandon g) = true
ends_lease (call.Close g) = true
ends_lease c = false

-- how many are counted once a call was answered so, of so many before: one more where a lease was given, and one fewer where one ended
abbrev pub kept_by : ℕ → Call → Reply → ℕ
kept_by k c (reply.Leased g lo hi mark n) = k + 1
kept_by k c reply.Done = cond (ends_lease c) (k - 1) k
kept_by k c r = k

-- and once these notes are added
abbrev pub kept_from : ℕ → List Noted → ℕ
kept_from k [] = k
kept_from k (n ∷ ns) = kept_from (kept_by k n.entry.call n.entry.reply) ns

-- whether two leases are one
abbrev pub is_one : Grant → Grant → Bool
is_one g h = (g.id == h.id) && ((g.worker == h.worker) && (g.index == h.index))

-- these leases without this one
abbrev pub leases_without : Grant → List Grant → List Grant
leases_without g gs = filter (λ (h : Grant). not (is_one h g)) gs

-- the leases that are left of these once a call is done
abbrev pub leases_left : Call → List Grant → List Grant
leases_left (call.Park g) gs = leases_without g gs
leases_left (call.Abandon g) gs = leases_without g gs
leases_left (call.Close g) gs = leases_without g gs
leases_left c gs = gs

-- the leases that a worker has once its call was answered so, of these before: one more where a lease was given, and without the one that
-- ended
abbrev pub held_by : List Grant → Call → Reply → List Grant
held_by gs c (reply.Leased g lo hi mark n) = g ∷ gs
held_by gs c reply.Done = leases_left c gs
held_by gs c r = gs

-- and once these notes are added
abbrev pub held_from : List Grant → List Noted → List Grant
held_from gs [] = gs
held_from gs (n ∷ ns) = held_from (held_by gs n.entry.call n.entry.reply) ns

-- the leases that notes leave open
abbrev pub held_in : List Noted → List Grant
held_in ns = held_from [] ns

-- whether notes leave a lease open: it was given to them, and hasn't ended
abbrev pub holds : List Noted → Grant → Bool
holds ns g = list_any (λ (h : Grant). is_one h g) (held_in ns)

-- the entry of a call
abbrev pub call_entry : ℕ → Call → Reply → Entry
call_entry w c r = record { worker = w; call = c; reply = r }

-- the entries of a worker, with their indexes, from an index on
abbrev pub notes_of : ℕ → ℕ → List Entry → List Noted
notes_of k i [] = []
notes_of k i (e ∷ es) = cond (e.worker == k) (noted i e ∷ []) [] ++ notes_of k (i + 1) es

-- notes whose indexes are counted from another place
abbrev pub shifted : ℕ → List Noted → List Noted
shifted from ns = map (λ (n : Noted). noted (n.index + from) n.entry) ns

-- one call more of a worker is noted, at the index that its entry has, with what it was answered
abbrev pub Notes : ℕ → List Noted → List Noted → ℕ → Call → Reply → Type 0
Notes i old new w c r = new ≡ old ++ noted i (call_entry w c r) ∷ []

-- the same where it was refused; when out of memory, nothing is noted
abbrev pub NotesRefusal : ℕ → List Noted → List Noted → ℕ → Call → BookFault → Type 0
NotesRefusal i old new w c f = ((f ≡ OutOfMemory) × (new ≡ old)) ⊎ ((f ≡ OutOfMemory → ⊥) × Notes i old new w c (reply.Refused f))

-- at some index: that of the entry, in a history that stands under a lock
abbrev pub AtSomeIndex : (ℕ → Type 0) → Type 0
AtSomeIndex P = (i : ℕ) × P i

-- ---- what is noted at a seat, by what a call returned

-- a call that was answered is noted, at some index, with the reply that shows the answer
abbrev pub NotesAnswer : {X E : Type 0} → SeatValue → SeatValue → Call → (X → Reply) → Result X E → Type 0
NotesAnswer old new c view result = AtSomeIndex (λ i. IfOk result (λ x. Notes i old.notes new.notes old.number c (view x)))

-- a call that leased a tile is noted at the index of the entry that gave the lease
abbrev pub NotesLease : {E : Type 0} → SeatValue → SeatValue → Call → Result Leased E → Type 0
NotesLease old new c result = IfOk result (λ r. Notes r.lease.index old.notes new.notes old.number c (leased_reply r))

-- the same of a call that leases any tile; where none waits, it is noted too
abbrev pub NotesAnyLease : {E : Type 0} → SeatValue → SeatValue → Result (Option Leased) E → Type 0
NotesAnyLease old new result = IfOk result (λ r. MatchOption r
    (AtSomeIndex (λ i. Notes i old.notes new.notes old.number call.LeaseAny reply.NoneWaits))
    (λ l. Notes l.lease.index old.notes new.notes old.number call.LeaseAny (leased_reply l)))

-- a call that had nothing to answer is noted, at some index, as done
abbrev pub NotesDone : {X E : Type 0} → SeatValue → SeatValue → Call → Result X E → Type 0
NotesDone old new c result = AtSomeIndex (λ i. OnOk result (Notes i old.notes new.notes old.number c reply.Done))

-- a call that was refused is noted, at some index, with its fault, unless memory ran out
abbrev pub NotesFault : {X : Type 0} → SeatValue → SeatValue → Call → Result X BookFault → Type 0
NotesFault old new c result = AtSomeIndex (λ i. IfErr result (λ f. NotesRefusal i old.notes new.notes old.number c f))

-- the same, where what the call was given comes back with the fault
abbrev pub NotesRefused : {X G : Type 0} → SeatValue → SeatValue → Call → Result X (Refused BookFault G) → Type 0
NotesRefused old new c result = AtSomeIndex (λ i. IfErr result (λ r. NotesRefusal i old.notes new.notes old.number c r.fault))

-- a post of this stretch, by this lease, to a book of this problem is noted with its answer
abbrev pub NotesPost : {E : Type 0} → ProblemValue → SeatValue → SeatValue → Grant → StretchValue → Result Posted E → Type 0
NotesPost p old new g x result = NotesAnswer old new (post_of p g x) posted_reply result

-- where it was refused, it is noted with its fault
abbrev pub NotesPostFault : {X G : Type 0}
    → ProblemValue → SeatValue → SeatValue → Grant → StretchValue → Result X (Refused BookFault G) → Type 0
NotesPostFault p old new g x result = NotesRefused old new (post_of p g x) result

-- a split at this cut is noted with the new tile's id
abbrev pub NotesSplit : {E : Type 0} → ProblemValue → SeatValue → SeatValue → Grant → CutPath → Result ℕ E → Type 0
NotesSplit p old new g cut result = NotesAnswer old new (split_of p g cut) reply.Split result

-- where it was refused, it is noted with its fault
abbrev pub NotesSplitFault : {X G : Type 0}
    → ProblemValue → SeatValue → SeatValue → Grant → CutPath → Result X (Refused BookFault G) → Type 0
NotesSplitFault p old new g cut result = NotesRefused old new (split_of p g cut) result

-- a stretch that was taken out again, by this lease, is noted by its ends
abbrev pub NotesRetract : {E : Type 0} → SeatValue → SeatValue → Grant → Result StretchValue E → Type 0
NotesRetract old new g result = NotesAnswer old new (call.Retract g) (λ (x : StretchValue). reply.Retracted x.from x.to) result

-- one is counted more where there is such a thing, and else as many as before
abbrev pub KeepsRoomFor : {A : Type 0} → Option A → SeatValue → SeatValue → Type 0
KeepsRoomFor o old new = MatchOption o (new.kept ≡ old.kept) (λ _. new.kept ≡ old.kept + 1)

-- a lease that was given is held, and those from before; where a call was refused, none more
abbrev pub HoldsLease : {E : Type 0} → SeatValue → SeatValue → Result Leased E → Type 0
HoldsLease old new result = IfOk result (λ r. held_in new.notes ≡ r.lease ∷ held_in old.notes) × OnErr result (held_in new.notes ≡ held_in old.notes)

-- the same where there may be none
abbrev pub HoldsAnyLease : {E : Type 0} → SeatValue → SeatValue → Result (Option Leased) E → Type 0
HoldsAnyLease old new result =
    IfOk result (λ o. MatchOption o (held_in new.notes ≡ held_in old.notes) (λ r. held_in new.notes ≡ r.lease ∷ held_in old.notes))
    × OnErr result (held_in new.notes ≡ held_in old.notes)

-- where a call ended a lease, the others are held, and else all that were
abbrev pub HoldsOthers : {X E : Type 0} → SeatValue → SeatValue → Grant → Result X E → Type 0
HoldsOthers old new g result =
    OnOk result (held_in new.notes ≡ leases_without g (held_in old.notes))
    × OnErr result (held_in new.notes ≡ held_in old.notes)
