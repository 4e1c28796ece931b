-- A session: a book, the worker that has one of its tiles open or none, and the breakpoints in the order in which they were set. A
-- `fresh_session` has the whole run of a problem open, at its start.
--
-- Example: the fresh session of the small problem has the line `branch start to end leased`. proofs/CommandExamples.antt computes it.
use Rattle.std.specs.Prelude.{◌≡◌, true, List, [], Option, None, option_map}
use Rattle.std.specs.List.{list_all}
use Rattle.cover_problem.specs.Problem.{ProblemValue}
use Rattle.x_steps.specs.StateValue.{StateValue, start}
use Rattle.x_texts.specs.declared.breakpoint.Break.{Break}
use Rattle.x_texts.specs.Breaks.{is_break}
use Rattle.lab_book.specs.Book.{BookValue, new_book, outcome, book_step}
use Rattle.lab_history.specs.declared.entry.Call.TheVariants as call
use Rattle.lab_world.specs.Worker.{WorkerValue, lent_worker}
use Rattle.lab_world.specs.World.{WorldValue, IsSeat, worker_at}
use Rattle.lab_world.specs.Alone.{alone}

-- what a session has: a book, the worker whose branch is open or none, and the breakpoints in the order in which they were set
pub record SessionValue : Type 0 where
  pub book : BookValue
  pub worker : Option WorkerValue
  pub breaks : List Break

-- what is true of every session: a branch that is open is leased to worker 0, and each breakpoint can be met
pub record IsSession (v : SessionValue) : Type 0 where
  pub seat : IsSeat v.book 0 v.worker
  pub breaks : list_all (is_break v.book.problem) v.breaks ≡ true

-- where the search of an open branch stands, if one is open
abbrev pub position_of : Option WorkerValue → Option StateValue
position_of worker = option_map (λ (w : WorkerValue). w.runner.position) worker

-- worker 0 leases the first tile that waits
abbrev pub entered : BookValue → WorldValue
entered b = alone (book_step b 0 call.LeaseAny) (lent_worker b.problem (outcome b 0 call.LeaseAny).reply)

-- the session of a book with no open branch and no breakpoint
abbrev pub session_on : BookValue → SessionValue
session_on b = record { book = b; worker = None; breaks = [] }

-- a session of a problem's whole run, which is open at its start
abbrev pub fresh_session : ProblemValue → SessionValue
fresh_session p =
    let d = entered (new_book p (record { lo = None; hi = None }) start) in
    record { book = d.book; worker = worker_at d.workers 0; breaks = [] }
