-- A world of one worker (`alone`), and what acts of that worker, one after another, make of its book and of its seat (`Leads`).
--
-- Example: in the world of the small problem's new book and one worker, the act `LeaseAny` leads to the book in which tile 0 is leased, with the
-- worker at the start. proofs/WorldExamples.antt computes it.
use Rattle.std.specs.Prelude.{ℕ, ◌≡◌, Option, Some, List, [], ◌∷◌, map, replicate}
use Rattle.lab_book.specs.Book.{BookValue}
use Rattle.lab_world.specs.declared.event.Act.{Act}
use Rattle.lab_world.specs.declared.event.Act.TheVariants.{Step}
use Rattle.lab_world.specs.declared.event.WorldEvent.{WorldEvent}
use Rattle.lab_world.specs.Worker.{WorkerValue}
use Rattle.lab_world.specs.World.{WorldValue, played}

-- a book, and one worker with a tile or without one
abbrev pub alone : BookValue → Option WorkerValue → WorldValue
alone b x = record { book = b; workers = x ∷ [] }

-- worker 0 does this
abbrev pub own_event : Act → WorldEvent
own_event a = record { worker = 0; act = a }

-- worker 0 does these, one after another
abbrev pub own_events : List Act → List WorldEvent
own_events acts = map own_event acts

-- these acts lead from one book and worker to others
abbrev pub Leads : BookValue → Option WorkerValue → List Act → BookValue → Option WorkerValue → Type 0
Leads b x acts c y = played (alone b x) (own_events acts) ≡ alone c y

-- so many steps lead a worker there, whatever its book is, and leave the book
abbrev pub StepsLead : WorkerValue → ℕ → WorkerValue → Type 0
StepsLead x n y = (b : BookValue) → Leads b (Some x) (replicate n Step) b (Some y)
