-- What a runner can do, and why a call of it is refused: to start (`CanStart`, `StartRefused`), to begin another branch (`BeginRefused`),
-- to take a step (`most_steps`, `CanAdvance`, `AdvanceRefused`), to name a cut at what is untried (`untried_in`, `CutRefused`, `WhyNotLeft`),
-- to end its branch at a cut (`CanShorten`), and to take a stretch back (`EndsHere`, `CanReopen`, `ReopenRefused`).
--
-- Example: at Done a step is refused as `AtBranchEnd`. In the small problem's whole run, at X2 with the path 2, only option 4 is untried at
-- level 0, so that the option 5 is refused as `NotUntried`; and if the mark is X1, a stretch as `NotAtMark`. proofs/RunnerExamples.antt
-- computes it.
use Rattle.std.specs.Prelude.{ℕ, ◌<◌, ◌≡◌, ◌+◌, true, false, Option, List, [], length, map}
use Rattle.std.specs.List.{slice_get}
use Rattle.shared_words.specs.Lists.{has, numbers}
use Rattle.cover_problem.specs.Problem.{ProblemValue}
use Rattle.x_steps.specs.declared.fault.AtFault.TheVariants as steps
use Rattle.x_steps.specs.StateValue.{StateValue}
use Rattle.x_steps.specs.Steps.{Fits, is_visit}
use Rattle.x_steps.specs.Run.{steps_between}
use Rattle.x_branches.specs.declared.branch.Branch.{Branch}
use Rattle.x_branches.specs.declared.fault.StartFault.{StartFault}
use Rattle.x_branches.specs.declared.fault.StartFault.TheVariants.{Steps, Runner}
use Rattle.x_branches.specs.declared.fault.RunnerFault.{RunnerFault}
use Rattle.x_branches.specs.declared.fault.RunnerFault.TheVariants.{AtBranchEnd, NothingUntried, NotUntried, OutsideBranch, NotAtMark}
use Rattle.x_branches.specs.declared.fault.RunnerFault.TheVariants.{StretchFull, OutOfMemory}
use Rattle.x_branches.specs.Cut.{CutPath, cut_state}
use Rattle.x_branches.specs.RunOrder.{ComesBefore}
use Rattle.x_branches.specs.Stretch.{StretchValue}
use Rattle.x_branches.specs.Untried.{left_above, untried, with_choice}
use Rattle.x_branches.specs.Branch.{first_of, end_of}
use Rattle.x_branches.specs.Runner.{RunnerValue, IsBranch, IsWithin}

-- a runner can stand at a state: the search has it, and it is within a branch of the problem's run
pub record CanStart (p : ProblemValue) (b : Branch) (s : StateValue) : Type 0 where
  pub fits : Fits p s
  pub branch : IsBranch p b
  pub within : IsWithin p b s

-- why a runner can't start
abbrev pub StartRefused : ProblemValue → Branch → StateValue → StartFault → Type 0
StartRefused p b s (Steps steps.NotAState) = Fits p s → ⊥
StartRefused p b s (Steps steps.OutOfMemory) = Unit {0}
StartRefused p b s (Runner OutsideBranch) = Fits p s × (CanStart p b s → ⊥)
StartRefused p b s (Runner OutOfMemory) = CanStart p b s
StartRefused p b s (Runner _) = ⊥

-- why a runner can't begin a branch where it stands
abbrev pub BeginRefused : RunnerValue → Branch → RunnerFault → Type 0
BeginRefused r b OutsideBranch = CanStart r.problem b r.position → ⊥
BeginRefused r b OutOfMemory = CanStart r.problem b r.position
BeginRefused r b _ = ⊥

-- the most steps that a stretch can have
abbrev pub most_steps : ℕ
most_steps = 4294967295

-- a runner can take a step: it isn't at its branch's end, and its stretch has room for one
pub record CanAdvance (r : RunnerValue) : Type 0 where
  pub goes_on : r.position ≡ end_of r.branch.hi → ⊥
  pub has_room : steps_between r.problem r.mark r.position ≡ most_steps → ⊥

-- why a step is refused
abbrev pub AdvanceRefused : RunnerValue → RunnerFault → Type 0
AdvanceRefused r AtBranchEnd = r.position ≡ end_of r.branch.hi
AdvanceRefused r StretchFull = (r.position ≡ end_of r.branch.hi → ⊥) × (steps_between r.problem r.mark r.position ≡ most_steps)
AdvanceRefused r OutOfMemory = CanAdvance r × (is_visit r.problem r.position ≡ true)
AdvanceRefused r _ = ⊥

-- what a runner leaves untried at a level
abbrev pub untried_in : RunnerValue → ℕ → List ℕ
untried_in r level = untried r.problem (end_of r.branch.hi) level r.position

-- the same at each level of its path, and then at the cursor's
abbrev pub untried_lists : RunnerValue → List (List ℕ)
untried_lists r = map (untried_in r) (numbers (length r.position.path + 1) 0)

-- the first option that it leaves untried at a level
abbrev pub first_untried_in : RunnerValue → ℕ → Option ℕ
first_untried_in r level = slice_get (untried_in r level) 0

-- nothing is untried at the levels before this one
abbrev pub NoneUntriedBefore : RunnerValue → ℕ → Type 0
NoneUntriedBefore r n = (level : ℕ) → level < n → untried_in r level ≡ []

-- the cut at an option of a level
abbrev pub cut_at : RunnerValue → ℕ → ℕ → CutPath
cut_at r level o = record { problem = r.problem; path = with_choice r.position level o }

-- why no cut is answered, at an option of a level
abbrev pub CutRefused : RunnerValue → ℕ → ℕ → RunnerFault → Type 0
CutRefused r level o OutsideBranch = (has (left_above r.problem level r.position) o ≡ true) × (has (untried_in r level) o ≡ false)
CutRefused r level o NothingUntried = (has (left_above r.problem level r.position) o ≡ false) × (untried_in r level ≡ [])
CutRefused r level o NotUntried = (has (left_above r.problem level r.position) o ≡ false) × (0 < length (untried_in r level))
CutRefused r level o OutOfMemory = has (untried_in r level) o ≡ true
CutRefused r level o _ = ⊥

-- of the two faults of an option that isn't left above a choice, the one that is told
abbrev pub WhyNotLeft : RunnerValue → ℕ → RunnerFault → Type 0
WhyNotLeft r level NothingUntried = untried_in r level ≡ []
WhyNotLeft r level NotUntried = 0 < length (untried_in r level)
WhyNotLeft r level _ = ⊥

-- a runner's branch can be ended at a cut: it is of the problem, after the position, and before the end
pub record CanShorten (r : RunnerValue) (cut : CutPath) : Type 0 where
  pub same_problem : cut.problem ≡ r.problem
  pub later : ComesBefore r.problem r.position (cut_state cut.path)
  pub before_end : ComesBefore r.problem (cut_state cut.path) (end_of r.branch.hi)

-- a runner stands at its mark, and a stretch ends there
pub record EndsHere (r : RunnerValue) (s : StretchValue) : Type 0 where
  pub at_mark : r.position ≡ r.mark
  pub ends : s.to ≡ r.position

-- a stretch can be joined to a runner's: it ends at the mark, is of the problem, and doesn't begin before the branch
pub record CanReopen (r : RunnerValue) (s : StretchValue) : Type 0 where
  pub ends : EndsHere r s
  pub same_problem : s.problem ≡ r.problem
  pub begun : ComesBefore r.problem s.from (first_of r.branch.lo) → ⊥

-- why a stretch isn't joined
abbrev pub ReopenRefused : RunnerValue → StretchValue → RunnerFault → Type 0
ReopenRefused r s NotAtMark = EndsHere r s → ⊥
ReopenRefused r s OutsideBranch = EndsHere r s × (CanReopen r s → ⊥)
ReopenRefused r s _ = ⊥
