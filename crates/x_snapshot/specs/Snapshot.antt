-- What a snapshot is: a problem, a branch of its run, a state within it, and the breakpoints of a search that stands there.
--
-- Example: in the small problem, from the cut 4 to the end, the state X2 after the choices 4 5 1. proofs/SnapshotExamples.antt shows
-- that it is one.
use Rattle.std.specs.Prelude.{ℕ, ◌≡◌, true, List, Option, Some, option_map}
use Rattle.std.specs.Prelude as prelude
use Rattle.std.specs.Global.{Vec}
use Rattle.cover_problem.specs.Problem.{ProblemValue, IsProblem}
use Rattle.x_steps.specs.declared.state.State.{State}
use Rattle.x_steps.specs.StateValue.{StateValue}
use Rattle.x_steps.specs.StateView.{state_value}
use Rattle.x_steps.specs.Steps.{Fits}
use Rattle.x_branches.specs.declared.branch.Branch.{Branch}
use Rattle.x_branches.specs.Cut.{CutPath, IsCut}
use Rattle.x_branches.specs.Runner.{runner_at, RunnerValue, IsBranch, IsWithin}
use Rattle.x_texts.specs.declared.breakpoint.Break.{Break}
use Rattle.x_texts.specs.Breaks.{are_breaks}
use Rattle.std.specs.Prelude.{MatchOption}
use Rattle.std.specs.Borrow.{Bor}

-- a problem, the paths of the cuts between which the branch lies (none: the start, the end), a state, and breakpoints
pub record SnapshotValue : Type 0 where
  pub problem : ProblemValue
  pub lo : Option (List ℕ)
  pub hi : Option (List ℕ)
  pub state : StateValue
  pub breaks : List Break

-- the snapshot that has these parts
abbrev pub snapshot_with : ProblemValue → Option (List ℕ) → Option (List ℕ) → StateValue → List Break → SnapshotValue
snapshot_with problem lo hi state breaks = record { problem = problem; lo = lo; hi = hi; state = state; breaks = breaks }

-- the same snapshot at another state
abbrev pub at_state : SnapshotValue → StateValue → SnapshotValue
at_state v t = record v { state = t }

-- the choices of a path, if there is one, without where they lie in memory
abbrev pub choices_of : Option (Vec ℕ) → Option (List ℕ)
choices_of path = option_map (λ choices. choices.items) path

-- the cuts and the state, without where they lie in memory
abbrev pub position_value : Option (Vec ℕ) × Option (Vec ℕ) × State → Option (List ℕ) × Option (List ℕ) × StateValue
position_value p = (choices_of p.0, choices_of p.1, state_value p.2)

-- the snapshot of parts, without where they lie in memory
abbrev pub parts_value : ProblemValue → Option (Vec ℕ) → Option (Vec ℕ) → State → List Break → SnapshotValue
parts_value problem lo hi state breaks = snapshot_with problem (choices_of lo) (choices_of hi) (state_value state) breaks

-- a path, if there is one, is a cut
abbrev pub IsCutIfAny : ProblemValue → Option (List ℕ) → Type 0
IsCutIfAny p prelude.None = Unit {0}
IsCutIfAny p (Some path) = IsCut p path

-- a path of the problem's search
abbrev pub path_in : ProblemValue → List ℕ → CutPath
path_in p path = record { problem = p; path = path }

-- the cut of a path, if there is one
abbrev pub cut_if_any : ProblemValue → Option (List ℕ) → Option CutPath
cut_if_any p path = option_map (path_in p) path

-- the branch between two cuts of a problem's run
abbrev pub branch_between : ProblemValue → Option (List ℕ) → Option (List ℕ) → Branch
branch_between p lo hi = record { lo = cut_if_any p lo; hi = cut_if_any p hi }

-- the runner of a snapshot, over its problem p: it stands at the snapshot's state, in the branch between its cuts
abbrev pub snapshot_runner : ProblemValue → SnapshotValue → RunnerValue
snapshot_runner p v = runner_at p (branch_between p v.lo v.hi) v.state

-- the same of paths and a state, without where they lie in memory
abbrev pub runner_from : ProblemValue → Option (Vec ℕ) → Option (Vec ℕ) → State → RunnerValue
runner_from p lo hi state = runner_at p (branch_between p (choices_of lo) (choices_of hi)) (state_value state)

-- the cuts, if there are any, and the state are on the problem's run
pub record IsOnRun (p : ProblemValue) (lo hi : Option (List ℕ)) (s : StateValue) : Type 0 where
  pub low : IsCutIfAny p lo
  pub high : IsCutIfAny p hi
  pub fits : Fits p s

-- the low cut comes before the high one, and the state is neither before the first state of the branch nor after its end
pub record IsOnBranch (p : ProblemValue) (lo hi : Option (List ℕ)) (s : StateValue) : Type 0 where
  pub branch : IsBranch p (branch_between p lo hi)
  pub within : IsWithin p (branch_between p lo hi) s

-- the cuts and the state of a snapshot are on its problem's run
abbrev pub StandsOnRun : SnapshotValue → Type 0
StandsOnRun v = IsOnRun v.problem v.lo v.hi v.state

-- its cuts are in their order, and its state is between them
abbrev pub StandsInside : SnapshotValue → Type 0
StandsInside v = IsOnBranch v.problem v.lo v.hi v.state

-- what is true of every snapshot
pub record IsSnapshot (v : SnapshotValue) : Type 0 where
  pub problem : IsProblem v.problem
  pub breaks : are_breaks v.problem v.breaks ≡ true
  pub on_run : StandsOnRun v
  pub inside : StandsInside v

-- what is true of each snapshot
abbrev pub EachSnapshot : (SnapshotValue → Type 0) → Type 0
EachSnapshot P = (v : SnapshotValue) → IsSnapshot v → P v

-- the paths and the state, wherever they lie in memory, are on the problem's run
abbrev pub AreOnRun : ProblemValue → Option (Vec ℕ) → Option (Vec ℕ) → State → Type 0
AreOnRun p lo hi state = IsOnRun p (choices_of lo) (choices_of hi) (state_value state)

-- the low cut comes before the high one, and the state is in the branch between them
abbrev pub AreInside : ProblemValue → Option (Vec ℕ) → Option (Vec ℕ) → State → Type 0
AreInside p lo hi state = IsOnBranch p (choices_of lo) (choices_of hi) (state_value state)

-- the parts, wherever they lie in memory, make a snapshot
abbrev pub MakeSnapshot : ProblemValue → Option (Vec ℕ) → Option (Vec ℕ) → State → List Break → Type 0
MakeSnapshot p lo hi state breaks = IsSnapshot (parts_value p lo hi state breaks)

-- a call lends what is there, or None where nothing is
abbrev pub Lends : {A : Type 0} → Option (Bor A) → Option A → Type 0
Lends result there = MatchOption result (there ≡ prelude.None) (λ x. there ≡ Some x.now)
