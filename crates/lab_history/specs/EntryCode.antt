-- Entries as rows of numbers, and back: `worker_of` and the codes of truth values, of cuts (`cut_code`, `cut_of`), leases (`grant_code`,
-- `grant_of`), faults (`fault_code`, `fault_of`), calls (`call_code`, `call_of`), replies (`reply_code`, `reply_of`) and entries
-- (`entry_code`, `entry_of`); each with what is left of a row behind it (`cut_rest`, `grant_rest`, `call_rest`). Last that each is read
-- back as it was.
--
-- Example: worker 2 parks the tile 0, by the lease of the entry 7, and that is done: 2, then 6 0 2 7 for the call, and 5 for the reply; and
-- so it is read back. proofs/HistoryExamples.antt computes it.
use Rattle.std.specs.Prelude.{ℕ, ◌≡◌, ◌%◌, ◌==◌, Bool, true, false, not, Option, List, [], ◌∷◌, ◌++◌, map, slice_index, if◌then◌else◌}
use Rattle.std.specs.List.{All}
use Rattle.std.specs.Prelude as prelude
use Rattle.std.specs.Global.{Vec}
use Rattle.packed_rows.specs.Rows.{RowsValue}
use Rattle.x_codes.specs.StateCode.{later, after_code, after_of, after_rest, path_code, path_of, path_rest, state_code, state_of, state_rest}
use Rattle.lab_history.specs.declared.grant.Grant.{Grant}
use Rattle.lab_history.specs.declared.fault.BookFault.{BookFault}
use Rattle.lab_history.specs.declared.fault.BookFault.TheVariants.{UnknownBranch, NotWaiting, StaleLease, ForeignProblem, NotAfterMark}
use Rattle.lab_history.specs.declared.fault.BookFault.TheVariants.{BeyondEnd, NotAMark, NotAtEnd}
use Rattle.lab_history.specs.declared.fault.BookFault.TheVariants.{NothingToRetract, SeatMismatch, OutOfMemory}
use Rattle.lab_history.specs.declared.entry.Call.{Call}
use Rattle.lab_history.specs.declared.entry.Call.TheVariants as call
use Rattle.lab_history.specs.declared.entry.Reply.{Reply}
use Rattle.lab_history.specs.declared.entry.Reply.TheVariants as reply
use Rattle.lab_history.specs.declared.entry.Entry.{Entry}

-- ---- numbers

-- a worker's number has 8 bits
abbrev pub worker_of : ℕ → ℕ
worker_of n = n % 256

-- 1 says that it is so, and 0 that it is not
abbrev pub bool_code : Bool → ℕ
bool_code true = 1
bool_code false = 0

-- any number but 0 says that it is so
abbrev pub bool_of : ℕ → Bool
bool_of n = not (n == 0)

-- ---- cuts

-- 0 where there is no cut; else 1, and its choices
unfoldable pub cut_code : Option (List ℕ) → List ℕ
cut_code prelude.None = 0 ∷ []
cut_code (prelude.Some path) = 1 ∷ path_code path

-- the cut at the head of a row, if there is one
unfoldable pub cut_of : List ℕ → Option (List ℕ)
cut_of ns = if slice_index ns 0 == 0 then prelude.None else prelude.Some (path_of (later ns))

-- what comes after it
unfoldable pub cut_rest : List ℕ → List ℕ
cut_rest ns = if slice_index ns 0 == 0 then later ns else path_rest (later ns)

-- ---- leases and faults

-- a lease's tile, its worker, and the place of its entry
unfoldable pub grant_code : Grant → List ℕ
grant_code g = g.id ∷ g.worker ∷ g.index ∷ []

-- the lease at the head of a row
unfoldable pub grant_of : List ℕ → Grant
grant_of ns = record { id = slice_index ns 0; worker = worker_of (slice_index (later ns) 0); index = slice_index (later (later ns)) 0 }

-- what comes after it
abbrev pub grant_rest : List ℕ → List ℕ
grant_rest ns = later (later (later ns))

-- a number for each fault, and for a lease that is stale the mark
unfoldable pub fault_code : BookFault → List ℕ
fault_code UnknownBranch = 1 ∷ []
fault_code NotWaiting = 2 ∷ []
fault_code (StaleLease mark) = 3 ∷ state_code mark
fault_code ForeignProblem = 4 ∷ []
fault_code NotAfterMark = 5 ∷ []
fault_code BeyondEnd = 6 ∷ []
fault_code NotAMark = 7 ∷ []
fault_code NotAtEnd = 8 ∷ []
fault_code NothingToRetract = 9 ∷ []
fault_code SeatMismatch = 10 ∷ []
fault_code OutOfMemory = 11 ∷ []

-- the fault of a number, with what comes after that
abbrev pub fault_numbered : ℕ → List ℕ → BookFault
fault_numbered n ns =
    if n == 1 then UnknownBranch else (if n == 2 then NotWaiting else (if n == 3 then StaleLease (state_of ns) else
    (if n == 4 then ForeignProblem else (if n == 5 then NotAfterMark else (if n == 6 then BeyondEnd else
    (if n == 7 then NotAMark else (if n == 8 then NotAtEnd else (if n == 9 then NothingToRetract else
    (if n == 10 then SeatMismatch else OutOfMemory)))))))))

-- the fault that a row tells
unfoldable pub fault_of : List ℕ → BookFault
fault_of ns = fault_numbered (slice_index ns 0) (later ns)

-- ---- calls

-- a number for each call, and then what it was given
unfoldable pub call_code : Call → List ℕ
call_code (call.Lease id) = 0 ∷ id ∷ []
call_code call.LeaseAny = 1 ∷ []
call_code (call.TakeHeld id) = 2 ∷ id ∷ []
call_code (call.Post g from to same) = 3 ∷ bool_code same ∷ grant_code g ++ (state_code from ++ after_code from.path to)
call_code (call.Split g path same) = 4 ∷ bool_code same ∷ grant_code g ++ path_code path
call_code (call.Retract g) = 5 ∷ grant_code g
call_code (call.Park g) = 6 ∷ grant_code g
call_code (call.Abandon g) = 7 ∷ grant_code g
call_code (call.Close g) = 8 ∷ grant_code g
call_code (call.PutBack id s) = 9 ∷ id ∷ state_code s
call_code (call.RequestStop id) = 10 ∷ id ∷ []

-- a post: whether its problem is that of the book, its lease, and the two states between which it leads
abbrev pub post_read : List ℕ → Call
post_read ns =
    let from = state_of (grant_rest (later ns)) in
    call.Post (grant_of (later ns)) from (after_of from.path (state_rest (grant_rest (later ns)))) (bool_of (slice_index ns 0))

-- a split: whether its problem is that of the book, its lease, and the choices of its cut
abbrev pub split_read : List ℕ → Call
split_read ns = call.Split (grant_of (later ns)) (path_of (grant_rest (later ns))) (bool_of (slice_index ns 0))

-- a tile that is put back: its id, and the state at which it has a mark
abbrev pub put_back_read : List ℕ → Call
put_back_read ns = call.PutBack (slice_index ns 0) (state_of (later ns))

-- the call of a number, with what comes after that
abbrev pub call_with : ℕ → List ℕ → Call
call_with n ns =
    if n == 0 then call.Lease (slice_index ns 0) else (if n == 1 then call.LeaseAny else (if n == 2 then call.TakeHeld (slice_index ns 0) else
    (if n == 3 then post_read ns else (if n == 4 then split_read ns else (if n == 5 then call.Retract (grant_of ns) else
    (if n == 6 then call.Park (grant_of ns) else (if n == 7 then call.Abandon (grant_of ns) else (if n == 8 then call.Close (grant_of ns) else
    (if n == 9 then call.PutBack (slice_index ns 0) (state_of (later ns)) else call.RequestStop (slice_index ns 0))))))))))

-- what comes after what the call of this number was given
abbrev pub call_rest_with : ℕ → List ℕ → List ℕ
call_rest_with n ns =
    if n == 0 then later ns else (if n == 1 then ns else (if n == 2 then later ns else
    (if n == 3 then after_rest (state_rest (grant_rest (later ns))) else (if n == 4 then path_rest (grant_rest (later ns)) else (if n == 5 then grant_rest ns else
    (if n == 6 then grant_rest ns else (if n == 7 then grant_rest ns else (if n == 8 then grant_rest ns else
    (if n == 9 then state_rest (later ns) else later ns)))))))))

-- the call at the head of a row
unfoldable pub call_of : List ℕ → Call
call_of ns = call_with (slice_index ns 0) (later ns)

-- what comes after it
unfoldable pub call_rest : List ℕ → List ℕ
call_rest ns = call_rest_with (slice_index ns 0) (later ns)

-- ---- replies

-- a number for each reply, and then what it tells
unfoldable pub reply_code : Reply → List ℕ
reply_code (reply.Leased g lo hi mark waiting) = 0 ∷ waiting ∷ grant_code g ++ (cut_code lo ++ (cut_code hi ++ state_code mark))
reply_code reply.NoneWaits = 1 ∷ []
reply_code (reply.Posted stop waiting) = 2 ∷ bool_code stop ∷ waiting ∷ []
reply_code (reply.Split id) = 3 ∷ id ∷ []
reply_code (reply.Retracted from to) = 4 ∷ state_code from ++ state_code to
reply_code reply.Done = 5 ∷ []
reply_code (reply.Refused f) = 6 ∷ fault_code f

-- a tile that is leased: its lease, where it begins and ends, its mark, and how many tiles wait
abbrev pub leased_read : List ℕ → Reply
leased_read ns = reply.Leased (grant_of (later ns)) (cut_of (grant_rest (later ns))) (cut_of (cut_rest (grant_rest (later ns)))) (state_of (cut_rest (cut_rest (grant_rest (later ns))))) (slice_index ns 0)

-- a post that is taken: whether the worker is asked to stop, and how many tiles wait
abbrev pub posted_read : List ℕ → Reply
posted_read ns = reply.Posted (bool_of (slice_index ns 0)) (slice_index (later ns) 0)

-- a post that is taken back: the two states between which it led
abbrev pub retracted_read : List ℕ → Reply
retracted_read ns = reply.Retracted (state_of ns) (state_of (state_rest ns))

-- the reply of a number, with what comes after that
abbrev pub reply_with : ℕ → List ℕ → Reply
reply_with n ns =
    if n == 0 then leased_read ns else (if n == 1 then reply.NoneWaits else
    (if n == 2 then reply.Posted (bool_of (slice_index ns 0)) (slice_index (later ns) 0) else (if n == 3 then reply.Split (slice_index ns 0) else
    (if n == 4 then reply.Retracted (state_of ns) (state_of (state_rest ns)) else (if n == 5 then reply.Done else reply.Refused (fault_of ns))))))

-- the reply that a row tells
unfoldable pub reply_of : List ℕ → Reply
reply_of ns = reply_with (slice_index ns 0) (later ns)

-- ---- entries

-- the worker, the call, and the reply
unfoldable pub entry_code : Entry → List ℕ
entry_code e = e.worker ∷ call_code e.call ++ reply_code e.reply

-- the entry that a row tells
unfoldable pub entry_of : List ℕ → Entry
entry_of ns = record { worker = worker_of (slice_index ns 0); call = call_of (later ns); reply = reply_of (call_rest (later ns)) }

-- ---- what is read back as it was

-- a cut is read back as it was, and nothing of what comes after it is lost
abbrev pub ReadsCut : Option (List ℕ) → Type 0
ReadsCut cut = (rest : List ℕ) → (cut_of (cut_code cut ++ rest) ≡ cut) × (cut_rest (cut_code cut ++ rest) ≡ rest)

-- so is a lease
abbrev pub ReadsGrant : Grant → Type 0
ReadsGrant g = (rest : List ℕ) → grant_of (grant_code g ++ rest) ≡ g

-- so is a call
abbrev pub ReadsCall : Call → Type 0
ReadsCall c = (rest : List ℕ) → (call_of (call_code c ++ rest) ≡ c) × (call_rest (call_code c ++ rest) ≡ rest)

-- a reply ends its row, and is read back as it was
abbrev pub ReadsReply : Reply → Type 0
ReadsReply r = reply_of (reply_code r) ≡ r

-- so is a fault
abbrev pub ReadsFault : BookFault → Type 0
ReadsFault f = fault_of (fault_code f) ≡ f

-- ---- a history's entries

-- the numbers of a row are the code of the entry that they tell: it is written in this way alone
abbrev pub IsEntryCode : List ℕ → Type 0
IsEntryCode ns = ns ≡ entry_code (entry_of ns)

-- each packed row is the code of an entry
abbrev pub AreEntryCodes : RowsValue → Type 0
AreEntryCodes packed = All IsEntryCode packed.rows

-- the entries of a history: those that are packed into rows, and then the last ones
abbrev pub all_entries : RowsValue → Vec Entry → List Entry
all_entries packed last = map entry_of packed.rows ++ last.items
