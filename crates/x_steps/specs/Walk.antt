-- Many steps at once: up to the first visit, the end of the run, or a state at which to stop.
--
-- Example: in the small problem a walk from X1 takes 30 steps to the first visit, 4 5 1, and 13 more to Done (computed in
-- proofs/WalkExamples.antt).
use Rattle.std.specs.Prelude.{ℕ, zero, suc, ◌+◌, ◌^◌, ◌<◌, ◌≤◌, ◌≡◌, ◌≢◌, ◌⊎◌, Bool, true, false, cond, List, [], ◌∷◌, ◌++◌, length, slice_index}
use Rattle.cover_problem.specs.Problem.{ProblemValue}
use Rattle.x_steps.specs.declared.state.Label.TheVariants.{X5}
use Rattle.x_steps.specs.declared.state.Cursor.TheVariants.{At}
use Rattle.x_steps.specs.declared.event.Event.{Event}
use Rattle.x_steps.specs.declared.event.Event.TheVariants.{Moved, Visited}
use Rattle.x_steps.specs.declared.machine.walk.Walk.{Walk}
use Rattle.x_steps.specs.StateValue.{StateValue}
use Rattle.x_steps.specs.Steps.{event_of}
use Rattle.x_steps.specs.Run.{after, states, level_count, ReachesIn}
use Rattle.x_steps.specs.Machine.{MachineValue}

-- what the last of n steps tells; where there is none, nothing but that the search moves on
abbrev pub last_event : ProblemValue → ℕ → StateValue → Event
last_event p zero s = Moved
last_event p (suc n) s = event_of p (after p n s)

-- whether a step came to a visit
abbrev pub is_visited : Event → Bool
is_visited Visited = true
is_visited _ = false

-- the visit of steps none of which but the last may come to one: what that one tells, and the path there
abbrev pub visit_told : Event → List ℕ → List (List ℕ)
visit_told event path = cond (is_visited event) (path ∷ []) []

-- none of n steps but the last comes to a visit or to the end
abbrev pub OnlyMoves : ProblemValue → ℕ → StateValue → Type 0
OnlyMoves p n s = (i : ℕ) → suc i < n → event_of p (after p i s) ≡ Moved

-- X5 at the last of these choices, after the others
pub record IsAtCut (s : StateValue) (choices : List ℕ) : Type 0 where
  pub label : s.label ≡ X5
  pub option : ℕ
  pub cursor : s.cursor ≡ At option
  pub path : s.path ++ option ∷ [] ≡ choices

-- to the count of each level are added the X2 states of that level
pub record AreCounted (old new : List ℕ) (ss : List StateValue) : Type 0 where
  pub levels : length new ≡ length old
  pub each : (level : ℕ) → level < length old → slice_index new level ≡ slice_index old level + level_count ss level

-- so many more fit into each count
abbrev pub CountsHaveRoom : ℕ → List ℕ → Type 0
CountsHaveRoom most counts = (level : ℕ) → level < length counts → slice_index counts level + most < 2 ^ 32

-- n steps from s to t, none of which but the last comes to a visit or to the end; and what was counted
pub record IsWalk (p : ProblemValue) (s t : StateValue) (old new : List ℕ) (n : ℕ) (event : Event) : Type 0 where
  pub reaches : ReachesIn p s t n
  pub moves : OnlyMoves p n s
  pub tells : event ≡ last_event p n s
  pub counted : AreCounted old new (states p n s)

-- such a walk of at least one step and at most `most`, which passes no X5
pub record IsRound (p : ProblemValue) (most : ℕ) (s t : StateValue) (old new : List ℕ) (n : ℕ) (event : Event) : Type 0 where
  pub walk : IsWalk p s t old new n event
  pub some : 0 < n
  pub within : n ≤ most
  pub passes : (i : ℕ) → 0 < i → i < n → (after p i s).label ≡ X5 → ⊥

-- ---- the same for a machine

-- the first machine comes to the second in n steps
abbrev pub Reaches : MachineValue → MachineValue → ℕ → Type 0
Reaches old new n = ReachesIn old.problem old.state new.state n

-- to the counts are added the X2 states that a machine leaves with its next n steps
abbrev pub CountsPassed : MachineValue → ℕ → List ℕ → List ℕ → Type 0
CountsPassed m n old new = AreCounted old new (states m.problem n m.state)

-- none of these states is X5 at the last of these choices, after the others
abbrev pub PassesNoCut : MachineValue → ℕ → List ℕ → Type 0
PassesNoCut m n choices = (i : ℕ) → i < n → IsAtCut (after m.problem i m.state) choices → ⊥

-- a walk from a state of the problem tells what the last of its steps does
abbrev pub TellsLast : ProblemValue → StateValue → Walk → Type 0
TellsLast p s walk = walk.event ≡ last_event p walk.steps s

-- a walk of at most `most` steps up to a state is over: so many are taken, the last came to a visit or to the end of the run, or the
-- state is X5 at the last of these choices, after the others
abbrev pub IsOver : ℕ → StateValue → List ℕ → Walk → Type 0
IsOver most s choices walk = (walk.steps ≡ most) ⊎ (walk.event ≢ Moved) ⊎ IsAtCut s choices

-- a walk from the first machine to the second, and what was counted
abbrev pub IsWalkOf : MachineValue → MachineValue → List ℕ → List ℕ → Walk → Type 0
IsWalkOf old new counts counted walk = IsWalk old.problem old.state new.state counts counted walk.steps walk.event

-- such a walk of at least one step and at most `most`, which passes no X5
abbrev pub IsRoundOf : ℕ → MachineValue → MachineValue → List ℕ → List ℕ → Walk → Type 0
IsRoundOf most old new counts counted walk = IsRound old.problem most old.state new.state counts counted walk.steps walk.event
