-- How a worker ends its tile (`ending_for`), what it does next where the book refuses one (`next_after`), and what the last
-- note of its seat then is (`EndsIn`, `Abandons`, `EndsTile`). What a call leased to it is `IfLeased` and `IsLeasedTo`; what its seat keeps at
-- other calls, `KeepsSeat`; and where its runner begins, `runner_for`.
--
-- Example: worker 0 closes the tile that it is done with, and its seat's last note is that close. It doesn't park it, and where a call was
-- refused its search ends. proofs/WorkerExamples.antt computes it.
use Rattle.std.specs.Prelude.{◌≡◌, ◌⊎◌, true, List, Option, Result, IfOk, IfSome}
use Rattle.cover_problem.specs.Problem.{ProblemValue}
use Rattle.x_branches.specs.Runner.{RunnerValue, runner_at}
use Rattle.lab_history.specs.declared.grant.Grant.{Grant}
use Rattle.lab_book.specs.declared.lease.Leased.{Leased}
use Rattle.lab_history.specs.declared.entry.Call.{Call}
use Rattle.lab_history.specs.declared.entry.Call.TheVariants as call
use Rattle.lab_history.specs.declared.ending.Ending.{Ending}
use Rattle.lab_history.specs.declared.ending.Ending.TheVariants as ending
use Rattle.lab_history.specs.Ending.{call_of_end}
use Rattle.lab_history.specs.declared.entry.Reply.{Reply}
use Rattle.lab_history.specs.declared.entry.Reply.TheVariants as reply
use Rattle.lab_history.specs.declared.fault.BookFault.{BookFault}
use Rattle.lab_history.specs.declared.fault.BookFault.TheVariants as fault
use Rattle.lab_desk.specs.declared.seat.Noted.{Noted}
use Rattle.lab_desk.specs.Record.{SeatValue, Notes, AtSomeIndex, held_in, holds}
use Rattle.lab_pool.specs.declared.search.Next.{Next}
use Rattle.lab_pool.specs.declared.search.Next.TheVariants as next

-- how a worker ends its tile: it closes one that is done, parks one at which it was asked to stop, and abandons any other
abbrev pub ending_for : Next → Ending
ending_for next.Done = ending.Close
ending_for next.Stop = ending.Park
ending_for _ = ending.Abandon

-- what it does next where the book refused a call
abbrev pub next_after : BookFault → Next
next_after fault.OutOfMemory = next.OutOfMemory
next_after _ = next.Refused

-- the last note of a seat is of this call with this reply, at whatever index its entry has
abbrev pub EndsIn : SeatValue → Call → Reply → Type 0
EndsIn s c r = (before : List Noted) × AtSomeIndex (λ i. Notes i before s.notes s.number c r)

-- the last note of a seat is that this lease's tile was abandoned
abbrev pub Abandons : SeatValue → Grant → Type 0
Abandons s g = EndsIn s (call.Abandon g) reply.Done

-- the last note of a seat is that this lease's tile was closed, or parked
abbrev pub HasLeft : SeatValue → Grant → Type 0
HasLeft s g = EndsIn s (call.Close g) reply.Done ⊎ EndsIn s (call.Park g) reply.Done

-- how a lease was ended, by what the worker does next: its tile was closed where it is done, parked where the worker was asked to stop, and
-- else abandoned
abbrev pub EndsTile : Next → SeatValue → Grant → Type 0
EndsTile n s g = EndsIn s (call_of_end (ending_for n) g) reply.Done

-- this is true of what a call leased, if it leased anything
abbrev pub IfLeased : {X E : Type 0} → Result (Option X) E → (X → Type 0) → Type 0
IfLeased result P = IfOk result (λ o. IfSome o P)

-- a tile is leased to the worker of a seat, which holds the lease
abbrev pub IsLeasedTo : SeatValue → Leased → Type 0
IsLeasedTo s l = (l.lease.worker ≡ s.number) × (holds s.notes l.lease ≡ true)

-- a seat has its number, and holds the leases that it held
abbrev pub KeepsSeat : SeatValue → SeatValue → Type 0
KeepsSeat old new = (new.number ≡ old.number) × (held_in new.notes ≡ held_in old.notes)

-- the runner that a lease asks for: in its tile's branch, at its mark
abbrev pub runner_for : ProblemValue → Leased → RunnerValue
runner_for p l = runner_at p l.branch l.mark
