-- Why parts make no snapshot: the faults of a cut and of a runner's start as those of a snapshot (`cut_fault_of`, `start_fault_of`), what
-- is so where breakpoints, a cut, a start or a position are refused (`IsBreakRefused` up to `IsPositionRefused`), and the first of all
-- these faults (`IsRefused`).
--
-- Example: at the start of the small problem, `level 8` is refused as a BadBreak, as there are 7 items; so is `visit` twice. The path 3
-- is refused as a cut: it is NotOnRun. proofs/SnapshotExamples.antt shows it.
use Rattle.std.specs.Prelude.{ℕ, ◌≡◌, true, false, List, Option}
use Rattle.cover_problem.specs.Problem.{ProblemValue}
use Rattle.x_steps.specs.declared.fault.AtFault.TheVariants as steps
use Rattle.x_steps.specs.StateValue.{StateValue}
use Rattle.x_steps.specs.Steps.{Fits}
use Rattle.x_branches.specs.declared.branch.Branch.{Branch}
use Rattle.x_branches.specs.declared.fault.CutFault.{CutFault}
use Rattle.x_branches.specs.declared.fault.CutFault.TheVariants as cuts
use Rattle.x_branches.specs.declared.fault.StartFault.{StartFault}
use Rattle.x_branches.specs.declared.fault.StartFault.TheVariants as starts
use Rattle.x_branches.specs.declared.fault.RunnerFault.TheVariants as runners
use Rattle.x_branches.specs.Refusals.{CanStart}
use Rattle.x_texts.specs.declared.breakpoint.Break.{Break}
use Rattle.x_snapshot.specs.declared.fault.SnapshotFault.{SnapshotFault}
use Rattle.x_snapshot.specs.declared.fault.SnapshotFault.TheVariants.{NotOnRun, OutsideBranch, BadBreak, OutOfMemory}
use Rattle.x_texts.specs.Breaks.{are_breaks}
use Rattle.x_snapshot.specs.Snapshot.{SnapshotValue, IsCutIfAny, IsOnRun, IsOnBranch, choices_of, parts_value}
use Rattle.x_steps.specs.declared.state.State.{State}
use Rattle.x_steps.specs.StateView.{state_value}
use Rattle.std.specs.Prelude.{Result, Err, IfErr}
use Rattle.std.specs.Global.{Vec}

-- why a path is no cut, and a state none of a branch, as faults of a snapshot
abbrev pub cut_fault_of : CutFault → SnapshotFault
cut_fault_of cuts.NotUntried = NotOnRun
cut_fault_of cuts.OutOfMemory = OutOfMemory

-- why a runner can't start at a state, as a fault of a snapshot
abbrev pub start_fault_of : StartFault → SnapshotFault
start_fault_of (starts.Steps steps.NotAState) = NotOnRun
start_fault_of (starts.Steps steps.OutOfMemory) = OutOfMemory
start_fault_of (starts.Runner runners.OutsideBranch) = OutsideBranch
start_fault_of (starts.Runner _) = OutOfMemory

-- one of these can be met nowhere, or comes twice
abbrev pub IsBreakRefused : ProblemValue → List Break → SnapshotFault → Type 0
IsBreakRefused p breaks BadBreak = are_breaks p breaks ≡ false
IsBreakRefused p breaks OutOfMemory = Unit {0}
IsBreakRefused p breaks _ = ⊥

-- a path is no cut
abbrev pub IsCutRefused : ProblemValue → Option (List ℕ) → SnapshotFault → Type 0
IsCutRefused p path NotOnRun = IsCutIfAny p path → ⊥
IsCutRefused p path OutOfMemory = Unit {0}
IsCutRefused p path _ = ⊥

-- a state isn't on the run, or outside the branch
abbrev pub IsStartRefused : ProblemValue → Branch → StateValue → SnapshotFault → Type 0
IsStartRefused p b s NotOnRun = Fits p s → ⊥
IsStartRefused p b s OutsideBranch = Fits p s × (CanStart p b s → ⊥)
IsStartRefused p b s OutOfMemory = Unit {0}
IsStartRefused p b s _ = ⊥

-- a cut or the state isn't on the run; or all of them are, and the branch or the state's position in it isn't right
abbrev pub IsPositionRefused : ProblemValue → Option (List ℕ) → Option (List ℕ) → StateValue → SnapshotFault → Type 0
IsPositionRefused p lo hi s NotOnRun = IsOnRun p lo hi s → ⊥
IsPositionRefused p lo hi s OutsideBranch = IsOnRun p lo hi s × (IsOnBranch p lo hi s → ⊥)
IsPositionRefused p lo hi s OutOfMemory = Unit {0}
IsPositionRefused p lo hi s _ = ⊥

-- why parts make no snapshot: the first of these faults, unless memory ran out
abbrev pub IsRefused : SnapshotValue → SnapshotFault → Type 0
IsRefused v BadBreak = are_breaks v.problem v.breaks ≡ false
IsRefused v NotOnRun = (are_breaks v.problem v.breaks ≡ true) × IsPositionRefused v.problem v.lo v.hi v.state NotOnRun
IsRefused v OutsideBranch = (are_breaks v.problem v.breaks ≡ true) × IsPositionRefused v.problem v.lo v.hi v.state OutsideBranch
IsRefused v OutOfMemory = Unit {0}
IsRefused v _ = ⊥

-- why the paths and the state, wherever they lie in memory, are no position on the run
abbrev pub AreRefused : ProblemValue → Option (Vec ℕ) → Option (Vec ℕ) → State → SnapshotFault → Type 0
AreRefused p lo hi state fault = IsPositionRefused p (choices_of lo) (choices_of hi) (state_value state) fault

-- why the parts, wherever they lie in memory, make none
abbrev pub MakeNone : ProblemValue → Option (Vec ℕ) → Option (Vec ℕ) → State → List Break → SnapshotFault → Type 0
MakeNone p lo hi state breaks fault = IsRefused (parts_value p lo hi state breaks) fault

-- a call that has an error tells the fault that was found, unless memory ran out
abbrev pub TellsFault : {X S : Type 0} → Result X SnapshotFault → Result S SnapshotFault → Type 0
TellsFault result found = IfErr result (λ fault. (fault ≡ OutOfMemory → ⊥) → found ≡ Err fault)
