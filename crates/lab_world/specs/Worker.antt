-- Workers: a lease of a book's tile, with the runner that searches there (`WorkerValue`). When a worker has its tile (`HoldsTile`); what
-- becomes of a worker (`moved_to`, `marked_at`, `shortened`, and `after_post` up to `after_end` by the book's answer); which tile is leased
-- (`leased_by`, `wanted_place`); and why a call is refused (`RetractRefused`, `WorkerSplitRefused`).
--
-- Example: of the small problem's new book worker 0 leases the tile of the whole run, and its runner is at the start. Moved to X2, it has a
-- stretch from X1 to X2 to post; once that is posted its mark is X2 too. proofs/WorldExamples.antt computes it.
use Rattle.std.specs.Prelude.{ℕ, ◌≡◌, ◌<◌, Bool, true, Option, Some, None, option_map, Result, Ok, Err, IfErr, List, length}
use Rattle.shared_words.specs.Lists.{has}
use Rattle.cover_problem.specs.Problem.{ProblemValue}
use Rattle.x_steps.specs.StateValue.{StateValue}
use Rattle.x_branches.specs.Cut.{CutPath}
use Rattle.x_branches.specs.Runner.{runner_at, unposted_stretch, RunnerValue, unposted_steps}
use Rattle.x_branches.specs.Stretch.{StretchValue}
use Rattle.x_branches.specs.Untried.{with_choice}
use Rattle.x_branches.specs.Refusals.{cut_at, untried_in, CutRefused}
use Rattle.lab_book.specs.declared.status.Status.{Status}
use Rattle.lab_book.specs.declared.status.Status.TheVariants as status
use Rattle.lab_history.specs.declared.grant.Grant.{Grant}
use Rattle.lab_history.specs.declared.fault.BookFault.{BookFault}
use Rattle.lab_history.specs.declared.fault.BookFault.TheVariants.{OutOfMemory}
use Rattle.lab_history.specs.declared.entry.Reply.{Reply}
use Rattle.lab_history.specs.declared.entry.Reply.TheVariants as reply
use Rattle.lab_book.specs.Tile.{TileValue, mark_of, is_waiting, is_held}
use Rattle.lab_book.specs.Tiling.{tile_at}
use Rattle.lab_book.specs.Book.{BookValue, outcome, book_step, found, status_fault, first_waiting}
use Rattle.lab_history.specs.declared.entry.Call.{Call}
use Rattle.lab_history.specs.declared.entry.Call.TheVariants as call
use Rattle.lab_book.specs.declared.lease.Posted.{Posted}
use Rattle.lab_book.specs.Calls.{Refuses, Posts, PostRefused}
use Rattle.x_steps.specs.declared.event.Event.{Event}
use Rattle.x_steps.specs.Steps.{next, event_of}
use Rattle.x_steps.specs.Before.{prev}
use Rattle.x_steps.specs.Run.{after}
use Rattle.x_steps.specs.Walk.{last_event, OnlyMoves}
use Rattle.x_branches.specs.declared.fault.RunnerFault.TheVariants.{NotAtMark}
use Rattle.lab_world.specs.declared.worker.leases.Wanted.{Wanted}
use Rattle.lab_world.specs.declared.worker.leases.Wanted.TheVariants as wanted
use Rattle.lab_world.specs.declared.fault.WorkerFault.{WorkerFault}
use Rattle.lab_world.specs.declared.fault.WorkerFault.TheVariants.{Runner, Book}

-- a lease, and a runner
pub record WorkerValue : Type 0 where
  pub grant : Grant
  pub runner : RunnerValue

-- a tile is a worker's: it is leased to it by its lease, and its runner searches the tile's branch from the tile's mark on
pub record IsWorkers (t : TileValue) (x : WorkerValue) : Type 0 where
  pub named : t.id ≡ x.grant.id
  pub leased : t.status ≡ status.Leased x.grant.worker x.grant.index
  pub branch : x.runner.branch ≡ t.branch
  pub mark : x.runner.mark ≡ mark_of t

-- one of these tiles is a worker's
pub record HasTile (ts : List TileValue) (x : WorkerValue) : Type 0 where
  pub place : ℕ
  pub within : place < length ts
  pub tile : IsWorkers (tile_at ts place) x

-- a worker holds its tile: it searches the book's problem, and a tile of the book is its own
pub record HoldsTile (b : BookValue) (x : WorkerValue) : Type 0 where
  pub problem : x.runner.problem ≡ b.problem
  pub tile : HasTile b.tiles x

-- ---- what becomes of a worker

-- its runner stands elsewhere
abbrev pub moved_to : WorkerValue → StateValue → WorkerValue
moved_to x s = record { grant = x.grant; runner = record x.runner { position = s } }

-- its runner stands a step further on
abbrev pub moved_forward : WorkerValue → WorkerValue
moved_forward x = moved_to x (next x.runner.problem x.runner.position)

-- its runner stands so many steps further on
abbrev pub moved_forward_by : WorkerValue → ℕ → WorkerValue
moved_forward_by x n = moved_to x (after x.runner.problem n x.runner.position)

-- its runner stands a step further back
abbrev pub moved_backward : WorkerValue → WorkerValue
moved_backward x = moved_to x (prev x.runner.problem x.runner.position)

-- the event of the step that its runner takes next
abbrev pub next_event : WorkerValue → Event
next_event x = event_of x.runner.problem x.runner.position

-- and of the last one of so many steps that it takes next
abbrev pub event_after : WorkerValue → ℕ → Event
event_after x n = last_event x.runner.problem n x.runner.position

-- its mark is another
abbrev pub marked_at : WorkerValue → StateValue → WorkerValue
marked_at x s = record { grant = x.grant; runner = record x.runner { mark = s } }

-- the stretch that it has not posted
abbrev pub unposted : WorkerValue → StretchValue
unposted x = unposted_stretch x.runner

-- its runner's branch ends at a cut
abbrev pub shortened : WorkerValue → CutPath → WorkerValue
shortened x cut = record { grant = x.grant; runner = record x.runner { branch = record x.runner.branch { hi = Some cut } } }

-- a worker's runner's branch ends at the cut at an option of a level of where it stands
abbrev pub shortened_at : WorkerValue → ℕ → ℕ → WorkerValue
shortened_at x level o = shortened x (cut_at x.runner level o)

-- the call that splits a worker's tile at a cut of its problem, by the cut's choices
abbrev pub split_call : WorkerValue → List ℕ → Call
split_call x path = call.Split x.grant path true

-- and at the cut at an option of a level of where its runner stands
abbrev pub split_at : WorkerValue → ℕ → ℕ → Grant → Call
split_at x level o g = call.Split g (with_choice x.runner.position level o) true

-- a runner that stands at the mark of the tile at a place of a book
abbrev pub runner_on : BookValue → ℕ → RunnerValue
runner_on b place = runner_at b.problem (tile_at b.tiles place).branch (mark_of (tile_at b.tiles place))

-- a runner that stands at the mark of the first tile that waits
pub record StandsAtFirst (b : BookValue) (r : RunnerValue) : Type 0 where
  pub place : ℕ
  pub first : first_waiting b.tiles ≡ Some place
  pub runner : r ≡ runner_at b.problem (tile_at b.tiles place).branch (mark_of (tile_at b.tiles place))

-- a problem's cut, by its choices
abbrev pub cut_along : ProblemValue → Option (List ℕ) → Option CutPath
cut_along p path = option_map (λ (q : List ℕ). record { problem = p; path = q }) path

-- the worker that is leased a tile, by the book's answer
abbrev pub lent_worker : ProblemValue → Reply → Option WorkerValue
lent_worker p (reply.Leased g lo hi mark waiting) =
    Some (record { grant = g; runner = runner_at p (record { lo = cut_along p lo; hi = cut_along p hi }) mark })
lent_worker p r = None

-- the worker that a call of the book leases a tile to, if it does
abbrev pub leased_by : BookValue → ℕ → Call → Option WorkerValue
leased_by b w c = lent_worker b.problem (outcome b w c).reply

-- what a worker's call by its lease makes of the book, and what the book answers it
abbrev pub after_call : BookValue → WorkerValue → (Grant → Call) → BookValue
after_call b x c = book_step b x.grant.worker (c x.grant)

-- what book b answers worker x, that makes this call by its lease
abbrev pub answer_to : BookValue → WorkerValue → (Grant → Call) → Reply
answer_to b x c = (outcome b x.grant.worker (c x.grant)).reply

-- what the split of worker x's tile at an option of a level makes of book b
abbrev pub book_after_split : BookValue → WorkerValue → ℕ → ℕ → BookValue
book_after_split b x level o = after_call b x (split_at x level o)

-- a book made a post of what a worker has not posted, and answered so
abbrev pub WorkerPosts : BookValue → BookValue → WorkerValue → Posted → Type 0
WorkerPosts old new x r = Posts old new x.grant (unposted x) r

-- a book refused it
abbrev pub WorkerPostRefused : BookValue → BookValue → WorkerValue → BookFault → Type 0
WorkerPostRefused old new x f = PostRefused old new x.grant (unposted x) f

-- ---- which tile is leased

-- where in the list a tile was found, or None where none was, or the one that was is refused
abbrev pub place_found : Result ℕ BookFault → Option ℕ
place_found (Ok i) = Some i
place_found (Err f) = None

-- how a tile stands that is leased by its id
abbrev pub is_wanted : Wanted → Status → Bool
is_wanted wanted.Waiting = is_waiting
is_wanted wanted.Held = is_held

-- the place of the tile with an id, if it stands so
abbrev pub wanted_place : Wanted → List TileValue → ℕ → Option ℕ
wanted_place want ts id = place_found (found ts id (λ t. status_fault (is_wanted want t.status) t))

-- the call that leases it
abbrev pub lease_call : Wanted → ℕ → Call
lease_call wanted.Waiting id = call.Lease id
lease_call wanted.Held id = call.TakeHeld id

-- ---- what becomes of a worker by the book's answer

-- it has posted what it walked
abbrev pub after_post : WorkerValue → Reply → Option WorkerValue
after_post x (reply.Posted stop waiting) = Some (marked_at x x.runner.position)
after_post x r = Some x

-- its tile was split at a cut
abbrev pub after_split : WorkerValue → CutPath → Reply → Option WorkerValue
after_split x cut (reply.Split id) = Some (shortened x cut)
after_split x cut r = Some x

-- it has taken the last stretch again
abbrev pub after_retract : WorkerValue → Reply → Option WorkerValue
after_retract x (reply.Retracted from to) = Some (marked_at x from)
after_retract x r = Some x

-- so many steps of its runner, from where it stands, only move
abbrev pub MovesOnly : WorkerValue → ℕ → Type 0
MovesOnly x n = OnlyMoves x.runner.problem n x.runner.position

-- book b answers the split of worker x's tile at an option of a level with an id
abbrev pub AnswersSplit : BookValue → WorkerValue → ℕ → ℕ → ℕ → Type 0
AnswersSplit b x level o id = answer_to b x (split_at x level o) ≡ reply.Split id

-- book b answers that worker x's tile lost its last stretch
abbrev pub IsRetracted : BookValue → WorkerValue → Type 0
IsRetracted b x = (from to : StateValue) × (answer_to b x call.Retract ≡ reply.Retracted from to)

-- what becomes of worker x that retracts, by the answer of book b
abbrev pub retracted_worker : BookValue → WorkerValue → Option WorkerValue
retracted_worker b x = after_retract x (answer_to b x call.Retract)

-- it has given its tile up, or closed it
abbrev pub after_end : WorkerValue → Reply → Option WorkerValue
after_end x reply.Done = None
after_end x r = Some x

-- why a worker's stretch isn't taken back: it has unposted steps, and then the book wasn't called, or the book refused
abbrev pub RetractRefused : BookValue → BookValue → WorkerValue → WorkerFault → Type 0
RetractRefused old new x (Runner NotAtMark) = (0 < unposted_steps x.runner) × (new ≡ old)
RetractRefused old new x (Runner f) = ⊥
RetractRefused old new x (Book f) = Refuses old new x.grant.worker (call.Retract x.grant) f × (unposted_steps x.runner ≡ 0)

-- why a worker's tile isn't split: its runner refused the cut, and then the book wasn't called, or memory ran out at a cut that is
-- untried; the book is as it was
abbrev pub WorkerSplitRefused : BookValue → BookValue → WorkerValue → ℕ → ℕ → WorkerFault → Type 0
WorkerSplitRefused old new x level o (Runner f) = CutRefused x.runner level o f × (new ≡ old)
WorkerSplitRefused old new x level o (Book f) = (has (untried_in x.runner level) o ≡ true) × (f ≡ OutOfMemory) × (new ≡ old)

-- where a call has an error, it is such a refusal
abbrev pub RefusesSplit : {X : Type 0} → Result X WorkerFault → BookValue → BookValue → WorkerValue → ℕ → ℕ → Type 0
RefusesSplit result old new x level o = IfErr result (WorkerSplitRefused old new x level o)
