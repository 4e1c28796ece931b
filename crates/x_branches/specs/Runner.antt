-- A runner: where it stands in a branch of a run, and from where on its steps are not posted (`RunnerValue`, `runner_end`,
-- `unposted_steps`); what is true of its cuts, its branch and its states (`IsOf`, `IsBranch`, `IsWithin`, `IsRunner`); what it keeps of its
-- steps (`KeepsRunner`); and how a state changes that: `visit_of`, `with_level`, `without_level`.
--
-- Example: in the small problem a runner with its mark at X1 that stands at the first X3 has two steps that are not posted. X2 with the
-- path 4 5 1 is a visit, and X2 with the path 4 counts one more at level 1: 1 1 0 becomes 1 2 0. proofs/RunnerExamples.antt computes it.
use Rattle.std.specs.Prelude.{ℕ, ◌≡◌, ◌+◌, ◌-◌, Option, Some, List, [], ◌∷◌, length, take, slice_index, slice_set, if◌then◌else◌}
use Rattle.std.specs.Prelude as prelude
use Rattle.cover_problem.specs.Problem.{ProblemValue, IsProblem}
use Rattle.cover_problem.specs.Path.{covered_by}
use Rattle.x_steps.specs.StateValue.{StateValue}
use Rattle.x_steps.specs.Steps.{Fits, IsBefore, covered_in, next, is_level, is_visit}
use Rattle.x_steps.specs.Before.{prev}
use Rattle.x_steps.specs.Run.{steps_between, visits_between, levels}
use Rattle.x_steps.specs.Machine.{MachineValue}
use Rattle.x_branches.specs.declared.branch.Branch.{Branch}
use Rattle.x_branches.specs.Cut.{CutPath, choices}
use Rattle.x_branches.specs.Branch.{first_of, end_of}
use Rattle.x_branches.specs.RunOrder.{ComesBefore}
use Rattle.x_branches.specs.Stretch.{StretchValue, IsStretch}

-- a problem, a branch of its run, and two states in it: from the mark up to the position the steps are not posted
pub record RunnerValue : Type 0 where
  pub problem : ProblemValue
  pub branch : Branch
  pub mark : StateValue
  pub position : StateValue

-- the state that ends its branch
abbrev pub runner_end : RunnerValue → StateValue
runner_end r = end_of r.branch.hi

-- how many of its steps are not posted
abbrev pub unposted_steps : RunnerValue → ℕ
unposted_steps r = steps_between r.problem r.mark r.position

-- a runner that has not moved: it stands at a state, with its mark there
abbrev pub runner_at : ProblemValue → Branch → StateValue → RunnerValue
runner_at p b s = record { problem = p; branch = b; mark = s; position = s }

-- a runner one step on
abbrev pub one_step_on : RunnerValue → RunnerValue
one_step_on r = record r { position = next r.problem r.position }

-- and one step back
abbrev pub one_step_back : RunnerValue → RunnerValue
one_step_back r = record r { position = prev r.problem r.position }

-- the state is the one before a runner's position
abbrev pub StandsBefore : RunnerValue → StateValue → Type 0
StandsBefore r s = IsBefore r.problem s r.position

-- a runner whose branch ends at a cut
abbrev pub ended_at : RunnerValue → CutPath → RunnerValue
ended_at r cut = record r { branch = record r.branch { hi = Some cut } }

-- the stretch from a runner's mark up to its position
abbrev pub unposted_stretch : RunnerValue → StretchValue
unposted_stretch r = record { problem = r.problem; from = r.mark; to = r.position }

-- what is covered where a runner stands
abbrev pub covered_by_runner : RunnerValue → List ℕ
covered_by_runner r = covered_in r.problem r.position

-- the choices of a runner before a level
abbrev pub earlier_choices : RunnerValue → ℕ → List ℕ
earlier_choices r level = take level (choices r.position)

-- what those choices cover
abbrev pub covered_before : RunnerValue → ℕ → List ℕ
covered_before r level = covered_by r.problem (earlier_choices r level)

-- a cut, if there is one, is the problem's
abbrev pub IsOf : ProblemValue → Option CutPath → Type 0
IsOf p prelude.None = Unit {0}
IsOf p (Some cut) = cut.problem ≡ p

-- a branch of the problem's run: its first state comes before its end
pub record IsBranch (p : ProblemValue) (b : Branch) : Type 0 where
  pub low : IsOf p b.lo
  pub high : IsOf p b.hi
  pub order : ComesBefore p (first_of b.lo) (end_of b.hi)

-- a state neither before the branch's first state nor after its end
pub record IsWithin (p : ProblemValue) (b : Branch) (s : StateValue) : Type 0 where
  pub begun : ComesBefore p s (first_of b.lo) → ⊥
  pub not_past : ComesBefore p (end_of b.hi) s → ⊥

-- what is true of every runner: mark and position are in its branch, and the position is the mark or comes later
pub record IsRunner (r : RunnerValue) : Type 0 where
  pub branch : IsBranch r.problem r.branch
  pub stretch : IsStretch r.problem r.mark r.position
  pub mark_in : IsWithin r.problem r.branch r.mark
  pub position_in : IsWithin r.problem r.branch r.position

-- what a runner keeps of the part from its mark to its position
pub record KeepsRunner (r : RunnerValue) (steps : ℕ) (visits : List (List ℕ)) (counts : List ℕ) : Type 0 where
  pub sound : IsProblem r.problem
  pub inside : IsRunner r
  pub first_fits : Fits r.problem (first_of r.branch.lo)
  pub end_fits : Fits r.problem (end_of r.branch.hi)
  pub steps_are : steps ≡ steps_between r.problem r.mark r.position
  pub visits_are : visits ≡ visits_between r.problem r.mark r.position
  pub counts_are : counts ≡ levels r.problem r.mark r.position

-- a state's visit, if it is one
abbrev pub visit_of : ProblemValue → StateValue → List (List ℕ)
visit_of p s = if is_visit p s then s.path ∷ [] else []

-- the visit of the state where a machine stands, if it is one
abbrev pub visit_here : MachineValue → List (List ℕ)
visit_here m = visit_of m.problem m.state

-- counts for each level, with one more at the level of a state of X2
abbrev pub with_level : List ℕ → StateValue → List ℕ
with_level counts s = if is_level s.label then slice_set counts (length s.path) (slice_index counts (length s.path) + 1) else counts

-- and with one less
abbrev pub without_level : List ℕ → StateValue → List ℕ
without_level counts s = if is_level s.label then slice_set counts (length s.path) (slice_index counts (length s.path) - 1) else counts
