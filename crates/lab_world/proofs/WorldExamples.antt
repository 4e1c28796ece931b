-- The examples of specs/Worker.antt, specs/World.antt and specs/Alone.antt, computed on the small problem.
use Rattle.std.proofs.Common.{◌≡◌, false, Some, None, List, [], ◌∷◌, refl}
use Rattle.cover_problem.proofs.CoverExamples.{small}
use Rattle.x_steps.specs.declared.state.Label.TheVariants.{X2}
use Rattle.x_steps.specs.declared.state.Cursor.TheVariants as cursor
use Rattle.x_steps.specs.StateValue.{StateValue, at, start}
use Rattle.x_branches.specs.Runner.{runner_at}
use Rattle.lab_history.specs.declared.entry.Call.TheVariants as call
use Rattle.lab_history.specs.declared.entry.Reply.TheVariants as reply
use Rattle.lab_book.specs.Book.{BookValue, new_book, outcome, book_step}
use Rattle.lab_world.specs.declared.event.Act.{Act}
use Rattle.lab_world.specs.declared.event.Act.TheVariants.{LeaseAny, Park}
use Rattle.lab_world.specs.declared.event.WorldEvent.{WorldEvent}
use Rattle.lab_world.specs.declared.event.WorldReply.TheVariants.{Book, Idle, Busy}
use Rattle.lab_world.specs.declared.worker.leases.Wanted.TheVariants as wanted
use Rattle.lab_world.specs.Worker.{WorkerValue, leased_by, moved_to, marked_at, unposted, wanted_place, after_post, after_end}
use Rattle.lab_world.specs.World.{turn_of, new_world, played, world_replies, worker_state}
use Rattle.lab_world.specs.Alone.{Leads}

-- the book of the whole run
abbrev whole : BookValue
whole = new_book small (record { lo = None; hi = None }) start

-- ---- specs/Worker.antt

-- worker 0, at the start
abbrev at_start : WorkerValue
at_start = record {
  grant = record { id = 0; worker = 0; index = 0 };
  runner = runner_at small (record { lo = None; hi = None }) start;
}

leases : leased_by whole 0 call.LeaseAny ≡ Some at_start
unfolding outcome
leases = refl

-- the tile waits: it isn't held
not_held : wanted_place wanted.Held whole.tiles 0 ≡ None
not_held = refl

waits : wanted_place wanted.Waiting whole.tiles 0 ≡ Some 0
waits = refl

-- the state after X1
abbrev next_state : StateValue
next_state = at X2 [] cursor.None

abbrev moved : WorkerValue
moved = moved_to at_start next_state

to_post : unposted moved ≡ record { problem = small; from = start; to = next_state }
to_post = refl

its_mark : after_post moved (reply.Posted false 0) ≡ Some (marked_at moved next_state)
its_mark = refl

-- a worker whose lease is ended is none
ended : after_end moved reply.Done ≡ None
ended = refl

-- ---- specs/World.antt

-- worker 1 acts
abbrev by_one : Act → WorldEvent
by_one act = record { worker = 1; act = act }

abbrev events : List WorldEvent
events = by_one Park ∷ by_one LeaseAny ∷ by_one LeaseAny ∷ []

replies : world_replies (new_world whole 2) events ≡ Idle ∷ Book 0 ∷ Busy ∷ []
unfolding turn_of outcome
replies = refl

one_stands : worker_state (played (new_world whole 2) events) 1 ≡ Some start
unfolding turn_of outcome
one_stands = refl

zero_has_none : worker_state (played (new_world whole 2) events) 0 ≡ None
unfolding turn_of outcome
zero_has_none = refl

-- ---- specs/Alone.antt

one_leases : Leads whole None (LeaseAny ∷ []) (book_step whole 0 call.LeaseAny) (Some at_start)
unfolding turn_of outcome
one_leases = refl
