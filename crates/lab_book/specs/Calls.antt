-- What a caller is told of a call: that the book made it (`Made`, which adds `next_entry`), or that it was refused (`Refuses`). The answers
-- and calls as the history keeps them are `leased_reply`, `any_reply`, `posted_reply`, `post_of` and `split_of`; `Posts`, `PostRefused`,
-- `Splits`, `SplitRefused`, `Ends` and `EndRefused` say it of these calls. `is_current` tests a lease; `Judged` and `Doubted` allow for
-- memory that runs out; and `ReturnsTo` is how many stretches a tile keeps.
--
-- Example: the small problem's new book makes the call of worker 0 that leases any tile. The lease is then the current one of its tile, and
-- was not before. proofs/BookExamples.antt computes it.
use Rattle.x_steps.specs.StateValue.{StateValue}
use Rattle.lab_book.specs.Tile.{TileValue}
use Rattle.std.specs.Prelude.{ℕ, ◌≡◌, ◌⊎◌, Option, Some, None, Result, Err, ◌≤◌, length, take, List, Bool, is_ok, IfErr, OnOk, option_map}
use Rattle.x_steps.specs.StateView.{state_value}
use Rattle.x_steps.specs.declared.state.State.{State}
use Rattle.cover_problem.specs.declared.fault.Refused.{Refused}
use Rattle.cover_problem.specs.Problem.{ProblemValue, is_same}
use Rattle.x_branches.specs.Cut.{CutPath}
use Rattle.x_branches.specs.Stretch.{StretchValue}
use Rattle.x_branches.specs.Refusals.{CanStart}
use Rattle.lab_history.specs.declared.grant.Grant.{Grant}
use Rattle.lab_book.specs.declared.lease.Leased.{Leased}
use Rattle.lab_book.specs.declared.lease.Posted.{Posted}
use Rattle.lab_history.specs.declared.fault.BookFault.{BookFault}
use Rattle.lab_history.specs.declared.fault.BookFault.TheVariants.{OutOfMemory}
use Rattle.lab_history.specs.declared.entry.Call.{Call}
use Rattle.lab_history.specs.declared.entry.Call.TheVariants as call
use Rattle.lab_history.specs.declared.entry.Reply.{Reply}
use Rattle.lab_history.specs.declared.entry.Entry.{Entry}
use Rattle.lab_history.specs.declared.entry.Reply.TheVariants as reply
use Rattle.lab_book.specs.Book.{BookValue, outcome, book_step, cut_path, stretches_to, found, found_by, lease_fault}

-- a book made this call, and gave this answer
pub record Made (old new : BookValue) (w : ℕ) (c : Call) (r : Reply) : Type 0 where
  pub book : new ≡ book_step old w c
  pub reply : r ≡ (outcome old w c).reply

-- the entry that a call adds
abbrev pub next_entry : BookValue → ℕ → Call → Entry
next_entry b w c = record { worker = w; call = c; reply = (outcome b w c).reply }

-- a call is refused with a fault, beside what it was given, only where this holds of the fault
abbrev pub RefusedIf : {A F G : Type 0} → Result A (Refused F G) → (F → Type 0) → Type 0
RefusedIf result p = IfErr result (λ r. p r.fault)

-- memory ran out, or this holds
abbrev pub OutOfMemoryOr : BookFault → Type 0 → Type 0
OutOfMemoryOr f holds = (f ≡ OutOfMemory) ⊎ holds

-- a call was refused: when out of memory nothing has changed, else the book made it and answered so
abbrev pub Refuses : BookValue → BookValue → ℕ → Call → BookFault → Type 0
Refuses old new w c f = ((f ≡ OutOfMemory) × (new ≡ old)) ⊎ ((f ≡ OutOfMemory → ⊥) × Made old new w c (reply.Refused f))

-- the answer to a worker that leases a tile, as the history keeps it
abbrev pub leased_reply : Leased → Reply
leased_reply r = reply.Leased r.lease (cut_path r.branch.lo) (cut_path r.branch.hi) r.mark r.waiting

-- a book leased a tile by a call, and answered so
abbrev pub Leases : BookValue → BookValue → ℕ → Call → Leased → Type 0
Leases old new w c r = Made old new w c (leased_reply r)

-- the tile that was leased can be searched: a search can start at its mark
abbrev pub CanBeSearched : ProblemValue → Leased → Type 0
CanBeSearched p r = CanStart p r.branch r.mark

-- and to one that leases any, where there may be none
abbrev pub any_reply : Option Leased → Reply
any_reply None = reply.NoneWaits
any_reply (Some r) = leased_reply r

-- the answer to a worker that posts, as the history keeps it
abbrev pub posted_reply : Posted → Reply
posted_reply r = reply.Posted r.stop r.waiting

-- a post, as the history keeps it
abbrev pub post_of : ProblemValue → Grant → StretchValue → Call
post_of p g x = call.Post g x.from x.to (is_same x.problem p)

-- a book made a post of this stretch, by this lease, and answered so
abbrev pub Posts : BookValue → BookValue → Grant → StretchValue → Posted → Type 0
Posts old new g x r = Made old new g.worker (post_of old.problem g x) (posted_reply r)

-- a book refused it
abbrev pub PostRefused : BookValue → BookValue → Grant → StretchValue → BookFault → Type 0
PostRefused old new g x f = Refuses old new g.worker (post_of old.problem g x) f

-- a split, as the history keeps it
abbrev pub split_of : ProblemValue → Grant → CutPath → Call
split_of p g c = call.Split g c.path (is_same c.problem p)

-- a book made a split at this cut, by this lease, and answered with the new tile's id
abbrev pub Splits : BookValue → BookValue → Grant → CutPath → ℕ → Type 0
Splits old new g c id = Made old new g.worker (split_of old.problem g c) (reply.Split id)

-- a book refused it
abbrev pub SplitRefused : BookValue → BookValue → Grant → CutPath → BookFault → Type 0
SplitRefused old new g c f = Refuses old new g.worker (split_of old.problem g c) f

-- a book ended this lease by a call, and answered that it is done
abbrev pub Ends : BookValue → BookValue → (Grant → Call) → Grant → Type 0
Ends old new c g = Made old new g.worker (c g) reply.Done

-- a book refused to
abbrev pub EndRefused : BookValue → BookValue → (Grant → Call) → Grant → BookFault → Type 0
EndRefused old new c g f = Refuses old new g.worker (c g) f

-- where a call to end this lease is refused, the book refused it
abbrev pub RefusesEnd : {A G : Type 0} → Result A (Refused BookFault G) → BookValue → BookValue → (Grant → Call) → Grant → Type 0
RefusesEnd result old new c g = RefusedIf result (EndRefused old new c g)

-- a book refuses a call by this lease
abbrev pub RefusesBy : BookValue → BookValue → Grant → (Grant → Call) → BookFault → Type 0
RefusesBy old new g c f = Refuses old new g.worker (c g) f

-- a book took this stretch out again, by this lease, and answered from where to where it went
abbrev pub Retracts : BookValue → BookValue → Grant → StretchValue → Type 0
Retracts old new g x = Made old new g.worker (call.Retract g) (reply.Retracted x.from x.to)

-- the call that takes a tile back to a state, as the history keeps it
abbrev pub back_to : ℕ → State → Call
back_to id s = call.PutBack id (state_value s)

-- whether a lease is the current one of a tile
abbrev pub is_current : List TileValue → Grant → Bool
is_current ts g = is_ok (found ts g.id (λ t. lease_fault g t None))

-- a search of the tiles: the answer of the definition, unless memory ran out
abbrev pub Judged : Result ℕ BookFault → Result ℕ BookFault → Type 0
Judged answer right = (answer ≡ Err OutOfMemory) ⊎ (answer ≡ right)

-- a search finds the tile of a lease, or says why the call is refused, unless memory ran out
abbrev pub Finds : Result ℕ BookFault → List TileValue → Grant → (TileValue → Option BookFault) → Type 0
Finds answer ts g check = Judged answer (found_by ts g check)

-- what stands against a call: what the definition says, unless memory ran out
abbrev pub Doubted : Option BookFault → Option BookFault → Type 0
Doubted answer right = (answer ≡ Some OutOfMemory) ⊎ (answer ≡ right)

-- a number of stretches after a first mark lead to the first mark that is this state; None where no mark is
abbrev pub LeadTo : State → StateValue → List StretchValue → Option ℕ → Type 0
LeadTo s first xs count = option_map (λ n. take n xs) count ≡ stretches_to (state_value s) first xs

-- a tile goes back to a state by keeping so many of its stretches
pub record ReturnsTo (t : TileValue) (s : StateValue) (count : ℕ) : Type 0 where
  pub some : count ≤ length t.stretches
  pub kept : stretches_to s t.first t.stretches ≡ Some (take count t.stretches)
