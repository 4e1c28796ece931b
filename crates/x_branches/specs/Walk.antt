-- Many steps of a runner at once: the choices of a branch's end (`end_choices`), a runner some steps on (`advanced_by`), that it can take
-- them (`CanAdvanceBy`), and why a walk stops before (`IsHeldUp`, `HasToStop`).
--
-- Example: in the small problem three steps lead a runner from X1 to X4 with the empty path, and a walk stops at X2 with the path 4 5 1,
-- which is a visit. proofs/RunnerExamples.antt computes it.
use Rattle.std.specs.Prelude.{ℕ, ◌<◌, ◌≡◌, ◌≢◌, ◌⊎◌, true, Option, Some, List, [], ◌++◌}
use Rattle.std.specs.Prelude as prelude
use Rattle.cover_problem.specs.Problem.{ProblemValue}
use Rattle.x_steps.specs.declared.event.Event.{Event}
use Rattle.x_steps.specs.declared.event.Event.TheVariants.{Moved, Visited}
use Rattle.x_steps.specs.declared.machine.walk.Walk.{Walk}
use Rattle.x_steps.specs.StateValue.{StateValue}
use Rattle.x_steps.specs.Steps.{is_visit}
use Rattle.x_steps.specs.Run.{after, states, visits}
use Rattle.x_steps.specs.Walk.{visit_told, IsAtCut}
use Rattle.x_steps.specs.Machine.{MachineValue}
use Rattle.x_branches.specs.Cut.{CutPath}
use Rattle.x_branches.specs.Runner.{RunnerValue}
use Rattle.x_branches.specs.Refusals.{CanAdvance}

-- the choices of the cut that ends a branch; none where the branch ends with the run
abbrev pub end_choices : Option CutPath → List ℕ
end_choices prelude.None = []
end_choices (Some cut) = cut.path

-- a runner n steps on
abbrev pub advanced_by : RunnerValue → ℕ → RunnerValue
advanced_by r n = record r { position = after r.problem n r.position }

-- a runner can take n steps, one after the other
abbrev pub CanAdvanceBy : RunnerValue → ℕ → Type 0
CanAdvanceBy r n = (i : ℕ) → i < n → CanAdvance (advanced_by r i)

-- no step can be taken, or the next one is a visit's, which takes memory
abbrev pub IsHeldUp : RunnerValue → Type 0
IsHeldUp r = (CanAdvance r → ⊥) ⊎ (is_visit r.problem r.position ≡ true)

-- a walk stops here though more steps are asked for: its last step came to a visit, or the runner is held up
abbrev pub HasToStop : RunnerValue → Event → Type 0
HasToStop r event = (event ≡ Visited) ⊎ IsHeldUp r

-- a state's visit is added, where a walk came to one
abbrev pub AddsVisit : List (List ℕ) → List (List ℕ) → Event → StateValue → Type 0
AddsVisit old new event s = new ≡ old ++ visit_told event s.path

-- the paths visited among the states that a machine leaves with its next n steps
abbrev pub passed_visits : MachineValue → ℕ → List (List ℕ)
passed_visits m n = visits m.problem (states m.problem n m.state)

-- a walk of at most `most` steps up to a state of the problem is over, or the next step is a visit's
abbrev pub IsOverOrAtVisit : ℕ → ProblemValue → StateValue → List ℕ → Walk → Type 0
IsOverOrAtVisit most p s choices walk =
    (walk.steps ≡ most) ⊎ ((walk.event ≢ Moved) ⊎ (IsAtCut s choices ⊎ (is_visit p s ≡ true)))
