-- Which states fit a problem, what is covered there, and the step table.
-- TAOCP volume 4B, section 7.2.2.1, Algorithm X, as steps X1 to X8 that can be taken one by one.
--
-- Example: in the small problem X4 with the path 2 3 is followed by X5 past 2 3: after the options 2 and 3 the item chosen
-- is e, and it has no option left; covered are then a d g b c f e (computed in proofs/StepExamples.antt).
use Rattle.std.specs.Prelude.{ℕ, ◌<◌, ◌≡◌, nat_lt, Bool, not, ◌&&◌, true, false, Option, Some, List, [], ◌∷◌, ◌++◌, length, if◌then◌else◌}
use Rattle.shared_words.specs.Lists.{above}
use Rattle.cover_problem.specs.Problem.{ProblemValue}
use Rattle.cover_problem.specs.Covering.{active, remaining, choice}
use Rattle.cover_problem.specs.Path.{IsChoice, IsValid, taken, covered_by}
use Rattle.x_steps.specs.declared.state.Label.{Label}
use Rattle.x_steps.specs.declared.state.Label.TheVariants.{X1, X2, X3, X4, X5, X6, X7, X8, Done}
use Rattle.x_steps.specs.declared.state.Cursor.{Cursor}
use Rattle.x_steps.specs.declared.state.Cursor.TheVariants as cursor
use Rattle.x_steps.specs.declared.state.Cursor.TheVariants.{At, Past}
use Rattle.x_steps.specs.declared.event.Event.{Event}
use Rattle.x_steps.specs.declared.event.Event.TheVariants.{Moved, Visited, Finished}
use Rattle.std.specs.Prelude as prelude
use Rattle.x_steps.specs.StateValue.{StateValue, at}

-- whether an item is active after a path
abbrev pub is_open : ProblemValue → List ℕ → Bool
is_open p path = nat_lt 0 (length (active p (covered_by p path)))

-- an item is active after a path
abbrev pub IsOpen : ProblemValue → List ℕ → Type 0
IsOpen p path = 0 < length (active p (covered_by p path))

-- the item chosen after a path
abbrev pub item_after : ProblemValue → List ℕ → ℕ
item_after p path = choice p (covered_by p path)

-- the options left for the item that is chosen after a path
abbrev pub remaining_after : ProblemValue → List ℕ → List ℕ
remaining_after p path = remaining p (covered_by p path) (item_after p path)

-- a path without its last choice, and that choice
-- (here for a path that begins with x, from what the choices after x are split into; None where there are none)
abbrev pub with_first : ℕ → Option (List ℕ × ℕ) → List ℕ × ℕ
with_first x prelude.None = ([], x)
with_first x (Some s) = (x ∷ s.0, s.1)

-- the same for a whole path, where None says that it has no choice
abbrev pub split_last : List ℕ → Option (List ℕ × ℕ)
split_last [] = prelude.None
split_last (x ∷ xs) = Some (with_first x (split_last xs))

-- the option that a step comes to, or past the last
abbrev pub next_cursor : Option ℕ → Cursor
next_cursor prelude.None = Past
next_cursor (Some o) = At o

-- the states that fit: the path is valid, X1 and Done have the empty one, an item is active where one was chosen, and the
-- option that the step is at makes the path longer by a valid choice
abbrev pub FitsAt : ProblemValue → Label → List ℕ → Cursor → Type 0
FitsAt p X1 path cursor.None = path ≡ []
FitsAt p X2 path cursor.None = IsValid p path
FitsAt p X3 path cursor.None = IsValid p path × IsOpen p path
FitsAt p X4 path cursor.None = IsValid p path × IsOpen p path
FitsAt p X5 path (At o) = IsValid p path × IsChoice p (covered_by p path) o
FitsAt p X5 path Past = IsValid p path × IsOpen p path
FitsAt p X6 path (At o) = IsValid p path × IsChoice p (covered_by p path) o
FitsAt p X7 path cursor.None = IsValid p path × IsOpen p path
FitsAt p X8 path cursor.None = IsValid p path
FitsAt p Done path cursor.None = path ≡ []
FitsAt p _ path _ = ⊥

-- a state fits problem p: by its label, its path and its cursor it is one of these
abbrev pub Fits : ProblemValue → StateValue → Type 0
Fits p s = FitsAt p s.label s.path s.cursor

-- what is covered at a state, in the order of covering
abbrev pub covered_at : ProblemValue → Label → List ℕ → Cursor → List ℕ
covered_at p X5 path k = covered_by p path ++ item_after p path ∷ []
covered_at p X7 path k = covered_by p path ++ item_after p path ∷ []
covered_at p X6 path (At o) = taken p (covered_by p path) o
covered_at p label path k = covered_by p path

-- the same for a state, by its label, its path and its cursor
unfoldable pub covered_in : ProblemValue → StateValue → List ℕ
covered_in p s = covered_at p s.label s.path s.cursor

-- after X8: the last choice is taken back, or there is none and the run ends
abbrev pub taken_back : Option (List ℕ × ℕ) → StateValue
taken_back prelude.None = at Done [] cursor.None
taken_back (Some s) = at X6 s.0 (At s.1)

-- the step table
abbrev pub next_at : ProblemValue → Label → List ℕ → Cursor → StateValue
next_at p X1 path k = at X2 path cursor.None
next_at p X2 path k = if is_open p path then at X3 path cursor.None else at X8 path cursor.None
next_at p X3 path k = at X4 path cursor.None
next_at p X4 path k = at X5 path (next_cursor (above 0 (remaining_after p path)))
next_at p X5 path (At o) = at X2 (path ++ o ∷ []) cursor.None
next_at p X5 path k = at X7 path cursor.None
next_at p X6 path (At o) = at X5 path (next_cursor (above o (remaining_after p path)))
next_at p X6 path k = at X6 path k
next_at p X7 path k = at X8 path cursor.None
next_at p X8 path k = taken_back (split_last path)
next_at p Done path k = at Done path k

-- the state after one step
unfoldable pub next : ProblemValue → StateValue → StateValue
next p s = next_at p s.label s.path s.cursor

-- whether the step is X2, which begins a level
abbrev pub is_level : Label → Bool
is_level X2 = true
is_level _ = false

-- an entry of X2 that finds an active item
abbrev pub is_entry : ProblemValue → StateValue → Bool
is_entry p s = is_level s.label && is_open p s.path

-- an X2 with no active item: its path is a visit
abbrev pub is_visit : ProblemValue → StateValue → Bool
is_visit p s = is_level s.label && not (is_open p s.path)

-- what a step tells
abbrev pub event_at : ProblemValue → Label → List ℕ → Event
event_at p X2 path = if is_open p path then Moved else Visited
event_at p X8 [] = Finished
event_at p _ _ = Moved

-- what the step that is about to be done at state s of problem p tells
unfoldable pub event_of : ProblemValue → StateValue → Event
event_of p s = event_at p s.label s.path

-- t comes before s: it fits, it isn't the end, and s is next
pub record IsBefore (p : ProblemValue) (t s : StateValue) : Type 0 where
  pub fit : Fits p t
  pub goes_on : t.label ≡ Done → ⊥
  pub steps : next p t ≡ s
