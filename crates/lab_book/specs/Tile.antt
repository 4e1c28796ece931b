-- A tile: a branch of the run, how it stands, and what was posted of it. First how one stands (`is_waiting`, `is_held`, `is_leased`,
-- `is_closed`, `is_free`, `is_lease`, and what becomes of that: `freed_status`, `ended_status`, `asked_status`), then `TileValue` and its
-- states: its marks are its first mark and the ends of its stretches, to which these lead (`led_to`); the last of them is its mark,
-- `mark_of`; `tile_end` ends it. Last what is true of it: `KeepsTile`, `Join`, `EqualMarksMeet`, `Stands`, `IsTile`.
--
-- Example: a tile of the small problem's whole run has the first mark X1; once the two steps to X3 are posted its mark is X3, and its end
-- is Done. One that worker 1 leased by the entry 7 isn't leased by the entry 3. proofs/BookExamples.antt computes it.
use Rattle.std.specs.Prelude.{ℕ, ◌≡◌, ◌≤◌, ◌==◌, ◌&&◌, Bool, true, false, List, [], ◌∷◌, length, take, if◌then◌else◌}
use Rattle.cover_problem.specs.Problem.{ProblemValue}
use Rattle.x_steps.specs.StateValue.{StateValue}
use Rattle.x_branches.specs.declared.branch.Branch.{Branch}
use Rattle.x_branches.specs.Branch.{first_of, end_of}
use Rattle.x_branches.specs.Stretch.{StretchValue, IsStretch}
use Rattle.x_branches.specs.Runner.{IsBranch}
use Rattle.lab_book.specs.declared.status.Status.{Status}
use Rattle.lab_book.specs.declared.status.Status.TheVariants.{Waiting, Held, Leased, Closed}
use Rattle.lab_history.specs.declared.grant.Grant.{Grant}
use Rattle.lab_history.specs.declared.ending.Ending.{Ending}
use Rattle.lab_history.specs.declared.ending.Ending.TheVariants as ending

-- whether a tile that stands so waits: it can be leased, and nobody has it
abbrev pub is_waiting : Status → Bool
is_waiting Waiting = true
is_waiting _ = false

-- whether a tile that stands so is held: nobody has it, and it is leased only to one who takes a held tile
abbrev pub is_held : Status → Bool
is_held Held = true
is_held _ = false

-- whether a tile that stands so is leased, to whichever worker
abbrev pub is_leased : Status → Bool
is_leased (Leased w i) = true
is_leased _ = false

-- whether a tile that stands so is closed
abbrev pub is_closed : Status → Bool
is_closed Closed = true
is_closed _ = false

-- whether a tile waits or is held: it is open, and nobody's
abbrev pub is_free : Status → Bool
is_free Waiting = true
is_free Held = true
is_free _ = false

-- whether a tile is leased by this lease
abbrev pub is_lease : Status → Grant → Bool
is_lease (Leased w i) g = (w == g.worker) && (i == g.index)
is_lease _ g = false

-- how a tile stands that is given up
abbrev pub freed_status : Bool → Status
freed_status stop = if stop then Held else Waiting

-- how a tile stands whose lease was ended so: it is closed, or given up
abbrev pub ended_status : Ending → Bool → Status
ended_status ending.Close stop = Closed
ended_status e stop = freed_status stop

-- and how one stands once it is asked to stop: where it waits it is held
abbrev pub asked_status : Status → Status
asked_status Waiting = Held
asked_status s = s

-- a tile
pub record TileValue : Type 0 where
  pub id : ℕ
  pub branch : Branch
  pub status : Status
  pub stop : Bool
  pub first : StateValue
  pub stretches : List StretchValue

-- where stretches lead from a state
abbrev pub led_to : StateValue → List StretchValue → StateValue
led_to s [] = s
led_to s (x ∷ xs) = led_to x.to xs

-- where a tile's posted stretches end
abbrev pub mark_of : TileValue → StateValue
mark_of t = led_to t.first t.stretches

-- the state that ends a tile
abbrev pub tile_end : TileValue → StateValue
tile_end t = end_of t.branch.hi

-- what is kept beside a branch and what was posted of it: the state that ends it, and where the stretches lead
pub record KeepsTile (branch : Branch) (first : StateValue) (stretches : List StretchValue) (end mark : StateValue) : Type 0 where
  pub end_is : end ≡ end_of branch.hi
  pub mark_is : mark ≡ led_to first stretches

-- stretches of a problem's run that join, from a state on
abbrev pub Join : ProblemValue → StateValue → List StretchValue → Type 0
Join p s [] = Unit {0}
Join p s (x ∷ xs) = (x.problem ≡ p) × (x.from ≡ s) × IsStretch p s x.to × Join p x.to xs

-- marks that are equal stand beside each other: one between two that are equal is equal to them
abbrev pub EqualMarksMeet : StateValue → List StretchValue → Type 0
EqualMarksMeet s xs = (i j k : ℕ) → i ≤ j → j ≤ k → k ≤ length xs → led_to s (take i xs) ≡ led_to s (take k xs)
    → led_to s (take j xs) ≡ led_to s (take k xs)

-- a waiting tile isn't asked to stop, a held one is, and a closed one is posted up to its end
abbrev pub Stands : Status → TileValue → Type 0
Stands Waiting t = t.stop ≡ false
Stands Held t = t.stop ≡ true
Stands (Leased w i) t = Unit {0}
Stands Closed t = mark_of t ≡ tile_end t

-- a tile of a problem's run: its first mark is within its branch, its stretches join from there on, and end within it
pub record IsTile (p : ProblemValue) (t : TileValue) : Type 0 where
  pub branch : IsBranch p t.branch
  pub begins : IsStretch p (first_of t.branch.lo) t.first
  pub joins : Join p t.first t.stretches
  pub within : IsStretch p (mark_of t) (tile_end t)
  pub stands : Stands t.status t
