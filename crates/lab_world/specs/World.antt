-- A world (`WorldValue`): a book, and for each worker nothing or its lease with its runner. What a worker's act makes of the book and of its
-- seat (`turn_of`), what an event (`world_step`) and many (`played`) make of a world, and what is true of every world (`IsWorld`).
--
-- An event is one worker's: it changes the book and that worker's seat alone.
--
-- Example: in a world of the small problem's new book and two workers, worker 1 can't park, as it has no tile (`Idle`); then it leases the
-- one that waits, and the answer is the book's entry 0; then it leases again, and is `Busy`. It stands at the start, and worker 0 nowhere.
-- proofs/WorldExamples.antt computes it.
use Rattle.std.specs.Prelude.{ℕ, ◌≡◌, ◌<◌, ◌==◌, Option, Some, None, Result, IfOk, List, [], ◌∷◌, length, option_map, replicate, slice_set}
use Rattle.std.specs.Prelude.{slice_index_or, if◌then◌else◌, IfSome, take, vec_len}
use Rattle.std.specs.Global.{Vec}
use Rattle.shared_words.specs.Lists.{has}
use Rattle.x_steps.specs.StateValue.{StateValue}
use Rattle.x_steps.specs.declared.event.Event.TheVariants as event
use Rattle.x_steps.specs.Steps.{next, event_of, covered_in}
use Rattle.x_steps.specs.Before.{prev}
use Rattle.x_branches.specs.declared.fault.RunnerFault.{RunnerFault}
use Rattle.x_branches.specs.declared.fault.RunnerFault.TheVariants.{AtBranchEnd, AtMark, NothingUntried, NotUntried, OutsideBranch}
use Rattle.x_branches.specs.declared.fault.RunnerFault.TheVariants.{NotAtMark, StretchFull}
use Rattle.x_branches.specs.Branch.{end_of}
use Rattle.x_branches.specs.Runner.{RunnerValue, unposted_steps}
use Rattle.x_branches.specs.Refusals.{most_steps, untried_in, cut_at}
use Rattle.x_branches.specs.Untried.{left_above, with_choice}
use Rattle.lab_history.specs.declared.entry.Call.{Call}
use Rattle.lab_history.specs.declared.entry.Call.TheVariants as call
use Rattle.lab_history.specs.declared.entry.Reply.{Reply}
use Rattle.lab_book.specs.States.{same_state}
use Rattle.lab_book.specs.Book.{BookValue, outcome, book_step}
use Rattle.lab_book.specs.Calls.{post_of}
use Rattle.lab_world.specs.declared.event.Act.{Act}
use Rattle.lab_world.specs.declared.event.Act.TheVariants.{Step, Back, Lease, LeaseAny, TakeHeld, Post, Split, Retract, Park, Abandon}
use Rattle.lab_world.specs.declared.event.Act.TheVariants.{Close, PutBack, RequestStop}
use Rattle.lab_world.specs.declared.event.WorldEvent.{WorldEvent}
use Rattle.lab_history.specs.declared.ending.Ending.{Ending}
use Rattle.lab_history.specs.declared.ending.Ending.TheVariants as ending
use Rattle.lab_world.specs.declared.worker.leases.Wanted.{Wanted}
use Rattle.lab_world.specs.declared.worker.leases.Wanted.TheVariants as wanted
use Rattle.lab_world.specs.declared.event.WorldReply.{WorldReply}
use Rattle.lab_world.specs.declared.event.WorldReply.TheVariants.{Event, Runner, Book, Idle, Busy}
use Rattle.lab_world.specs.Worker.{WorkerValue, HoldsTile, moved_to, unposted, split_call, lent_worker, after_post}
use Rattle.lab_world.specs.Worker.{after_split, after_retract, after_end}

-- a world
pub record WorldValue : Type 0 where
  pub book : BookValue
  pub workers : List (Option WorkerValue)

-- the worker with a number, if it holds a tile
abbrev pub worker_at : List (Option WorkerValue) → ℕ → Option WorkerValue
worker_at ws w = slice_index_or ws w None

-- ---- what an act makes of the book and of the worker's seat

-- the answer, the book, and the worker's seat
pub record Turn : Type 0 where
  pub reply : WorldReply
  pub book : BookValue
  pub worker : Option WorkerValue

-- nothing changes
abbrev pub stays : BookValue → Option WorkerValue → WorldReply → Turn
stays b x r = record { reply = r; book = b; worker = x }

-- a call of the book, whose answer says what becomes of the worker
abbrev pub called : BookValue → ℕ → Call → (Reply → Option WorkerValue) → Turn
called b w c becomes = record { reply = Book (length b.history); book = book_step b w c; worker = becomes (outcome b w c).reply }

-- a worker without a tile leases one
abbrev pub leasing : BookValue → ℕ → Option WorkerValue → Call → Turn
leasing b w None c = called b w c (lent_worker b.problem)
leasing b w (Some x) c = stays b (Some x) Busy

-- a worker with a tile acts
abbrev pub if_working : BookValue → Option WorkerValue → (WorkerValue → Turn) → Turn
if_working b None f = stays b None Idle
if_working b (Some x) f = f x

-- a step, unless the runner is at its branch's end, or its stretch has as many steps as can be counted
abbrev pub stepped : BookValue → WorkerValue → Turn
stepped b x =
    if same_state x.runner.position (end_of x.runner.branch.hi) then stays b (Some x) (Runner AtBranchEnd) else
    (if unposted_steps x.runner == most_steps then stays b (Some x) (Runner StretchFull) else
    record {
      reply = Event (event_of x.runner.problem x.runner.position);
      book = b;
      worker = Some (moved_to x (next x.runner.problem x.runner.position));
    })

-- a step back, unless the runner is at its mark
abbrev pub stepped_back : BookValue → WorkerValue → Turn
stepped_back b x =
    if same_state x.runner.position x.runner.mark then stays b (Some x) (Runner AtMark) else
    record { reply = Event event.Moved; book = b; worker = Some (moved_to x (prev x.runner.problem x.runner.position)) }

-- why a runner refuses the cut at an option of a level, where memory doesn't run out: the option is left there, and its cut doesn't
-- come before the branch's end; else nothing is untried there; else the option isn't
abbrev pub cut_refusal : RunnerValue → ℕ → ℕ → RunnerFault
cut_refusal r level o =
    if has (left_above r.problem level r.position) o then OutsideBranch else
    (if length (untried_in r level) == 0 then NothingUntried else NotUntried)

-- the tile is split at an option of a level, unless the runner refuses that cut
abbrev pub splitting : BookValue → ℕ → ℕ → WorkerValue → Turn
splitting b level o x =
    if has (untried_in x.runner level) o then
    called b x.grant.worker (split_call x (with_choice x.runner.position level o)) (after_split x (cut_at x.runner level o))
    else stays b (Some x) (Runner (cut_refusal x.runner level o))

-- what was posted last is taken out and walked again, unless there are unposted steps
abbrev pub retracting : BookValue → WorkerValue → Turn
retracting b x =
    if unposted_steps x.runner == 0 then called b x.grant.worker (call.Retract x.grant) (after_retract x) else
    stays b (Some x) (Runner NotAtMark)

-- what worker w's act makes of a book and of its seat
unfoldable pub turn_of : BookValue → Option WorkerValue → ℕ → Act → Turn
turn_of b x w Step = if_working b x (stepped b)
turn_of b x w Back = if_working b x (stepped_back b)
turn_of b x w (Lease id) = leasing b w x (call.Lease id)
turn_of b x w LeaseAny = leasing b w x call.LeaseAny
turn_of b x w (TakeHeld id) = leasing b w x (call.TakeHeld id)
turn_of b x w Post = if_working b x (λ y. called b y.grant.worker (post_of b.problem y.grant (unposted y)) (after_post y))
turn_of b x w (Split level o) = if_working b x (splitting b level o)
turn_of b x w Retract = if_working b x (retracting b)
turn_of b x w Park = if_working b x (λ y. called b y.grant.worker (call.Park y.grant) (after_end y))
turn_of b x w Abandon = if_working b x (λ y. called b y.grant.worker (call.Abandon y.grant) (after_end y))
turn_of b x w Close = if_working b x (λ y. called b y.grant.worker (call.Close y.grant) (after_end y))
turn_of b x w (PutBack id s) = called b w (call.PutBack id s) (λ r. x)
turn_of b x w (RequestStop id) = called b w (call.RequestStop id) (λ r. x)

-- the act that leases a tile by its id
abbrev pub lease_act : Wanted → ℕ → Act
lease_act wanted.Waiting id = Lease id
lease_act wanted.Held id = TakeHeld id

-- the act that ends a lease
abbrev pub end_act : Ending → Act
end_act ending.Park = Park
end_act ending.Abandon = Abandon
end_act ending.Close = Close

-- the answer is a turn's, and so are the book and the worker's seat
pub record Turned (t : Turn) (r : WorldReply) (b : BookValue) (x : Option WorkerValue) : Type 0 where
  pub reply : r ≡ t.reply
  pub book : b ≡ t.book
  pub worker : x ≡ t.worker

-- worker w's act makes this of a book and of its seat, unless memory ran out
abbrev pub Acts : {E : Type 0} → Result WorldReply E → ℕ → Act → BookValue → BookValue → Option WorkerValue → Option WorkerValue → Type 0
Acts result w act old new seat seat_new = IfOk result (λ r. Turned (turn_of old seat w act) r new seat_new)

-- and so does any worker's, whichever its number
abbrev pub AnyActs : {E : Type 0} → Result WorldReply E → Act → BookValue → BookValue → Option WorkerValue → Option WorkerValue → Type 0
AnyActs result act old new seat seat_new = IfOk result (λ r. (w : ℕ) → Turned (turn_of old seat w act) r new seat_new)

-- worker w's act makes this of a book, and leaves its seat as it is, whatever sits there, unless memory ran out
abbrev pub ActsAside : {E : Type 0} → Result WorldReply E → ℕ → Act → BookValue → BookValue → Type 0
ActsAside result w act old new = IfOk result (λ r. (x : Option WorkerValue) → Turned (turn_of old x w act) r new x)

-- where a reply names an entry of a book's history, it is there
abbrev pub IsInHistory : BookValue → WorldReply → Type 0
IsInHistory b (Book i) = i < length b.history
IsInHistory b r = Unit {0}

-- ---- worlds

-- what an event makes of a world
pub record Happening : Type 0 where
  pub reply : WorldReply
  pub world : WorldValue

-- what a turn of worker w makes of a world with these workers: its book and that one worker are as the turn leaves them
abbrev pub happening_of : List (Option WorkerValue) → ℕ → Turn → Happening
happening_of ws w t = record { reply = t.reply; world = record { book = t.book; workers = slice_set ws w t.worker } }

-- what event e makes of world v: the turn of the worker that it names, with the act that it names
abbrev pub world_step : WorldValue → WorldEvent → Happening
world_step v e = happening_of v.workers e.worker (turn_of v.book (worker_at v.workers e.worker) e.worker e.act)

-- the fold of events
abbrev pub played : WorldValue → List WorldEvent → WorldValue
played v [] = v
played v (e ∷ es) = played (world_step v e).world es

-- the answers that the fold gives
abbrev pub world_replies : WorldValue → List WorldEvent → List WorldReply
world_replies v [] = []
world_replies v (e ∷ es) = (world_step v e).reply ∷ world_replies (world_step v e).world es

-- a worker's seat: it is empty, or its lease names it and it holds its tile
abbrev pub IsSeat : BookValue → ℕ → Option WorkerValue → Type 0
IsSeat b w None = Unit {0}
IsSeat b w (Some x) = (x.grant.worker ≡ w) × HoldsTile b x

-- a worker's act makes this of its seat alone, whatever the book is, and whichever the worker's number, unless memory ran out
abbrev pub ActsAlone : {E : Type 0} → Result WorldReply E → Act → Option WorkerValue → Option WorkerValue → Type 0
ActsAlone result act seat seat_new = IfOk result (λ r. (b : BookValue) (w : ℕ) → Turned (turn_of b seat w act) r b seat_new)

-- each worker of a world that has a lease holds its tile
abbrev pub EachHolds : WorldValue → Type 0
EachHolds v = (w : ℕ) → w < length v.workers → IsSeat v.book w (worker_at v.workers w)

-- what is true of every world: it has 1 to 32 workers, and each that has a lease holds its tile
pub record IsWorld (v : WorldValue) : Type 0 where
  pub some : 0 < length v.workers
  pub few : length v.workers < 33
  pub holds : (w : ℕ) → w < length v.workers → IsSeat v.book w (worker_at v.workers w)

-- a world whose workers have no tile
abbrev pub new_world : BookValue → ℕ → WorldValue
new_world b n = record { book = b; workers = replicate n None }

-- where a worker stands
abbrev pub worker_state : WorldValue → ℕ → Option StateValue
worker_state v w = option_map (λ (x : WorkerValue). x.runner.position) (worker_at v.workers w)

-- where worker w of a world has a tile, these items are covered where it stands
abbrev pub AreCovered : WorldValue → ℕ → List ℕ → Type 0
AreCovered v w items = IfSome (worker_at v.workers w) (λ (x : WorkerValue). items ≡ covered_in x.runner.problem x.runner.position)

-- these are the replies to the first of these events, as many as there are
abbrev pub Replied : WorldValue → List WorldEvent → Vec WorldReply → Type 0
Replied v events replies = replies.items ≡ world_replies v (take (vec_len replies) events)

-- and the world is as those events left it
abbrev pub Played : WorldValue → List WorldEvent → Vec WorldReply → WorldValue → Type 0
Played v events replies new = new ≡ played v (take (vec_len replies) events)

-- it stopped before one of these events: there are fewer replies
abbrev pub StoppedEarly : List WorldEvent → Vec WorldReply → Type 0
StoppedEarly events replies = vec_len replies < length events
