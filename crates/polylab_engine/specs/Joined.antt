-- Stretches that join, and what their reports add up to.
--
-- Example: the small problem's run in slices of 20 steps: the levels 1 1 1, then 0 1 1 1, and none in the last three steps, add up to
-- 1 2 2 1 (proofs/OutputExamples.antt computes it).
use Rattle.std.specs.Prelude.{ℕ, ◌+◌, ◌≡◌, Bool, Option, List, [], ◌∷◌, ◌++◌}
use Rattle.cover_problem.specs.Problem.{ProblemValue}
use Rattle.x_steps.specs.StateValue.{StateValue, start, done}
use Rattle.x_steps.specs.Steps.{Fits}
use Rattle.x_snapshot.specs.Snapshot.{SnapshotValue, IsSnapshot, at_state}
use Rattle.polylab_engine.specs.Account.{ReportValue}
use Rattle.polylab_engine.specs.Resumed.{branch_end, stop_of, report_up_to}

-- the counts of levels, added level by level
abbrev pub levels_added : List ℕ → List ℕ → List ℕ
levels_added [] ys = ys
levels_added (x ∷ xs) [] = x ∷ xs
levels_added (x ∷ xs) (y ∷ ys) = (x + y) ∷ levels_added xs ys

-- two reports as one: the visits of one and then of the other, and the numbers added
abbrev pub report_sum : ReportValue → ReportValue → ReportValue
report_sum r q = record {
  visits = r.visits ++ q.visits;
  visited = r.visited + q.visited;
  steps = r.steps + q.steps;
  levels = levels_added r.levels q.levels;
}

-- the report of no step
abbrev pub nothing_told : ReportValue
nothing_told = record { visits = []; visited = 0; steps = 0; levels = [] }

-- all of these reports as one, in order
abbrev pub sum_of : List ReportValue → ReportValue
sum_of [] = nothing_told
sum_of (r ∷ rs) = report_sum r (sum_of rs)

-- the snapshot where a slice stops
abbrev pub after_slice : Option ℕ → SnapshotValue → SnapshotValue
after_slice most v = at_state v (stop_of most v)

-- the report of a slice
abbrev pub slice_report : Bool → Option ℕ → SnapshotValue → ReportValue
slice_report keeps most v = report_up_to keeps v (stop_of most v)

-- where slices lead, of so many steps at most: each begins where the one before stopped
abbrev pub sliced : SnapshotValue → List (Option ℕ) → SnapshotValue
sliced v [] = v
sliced v (most ∷ rest) = sliced (after_slice most v) rest

-- and the report of each of them
abbrev pub slice_reports : Bool → SnapshotValue → List (Option ℕ) → List ReportValue
slice_reports keeps v [] = []
slice_reports keeps v (most ∷ rest) = slice_report keeps most v ∷ slice_reports keeps (after_slice most v) rest

-- what is true of each run from a snapshot on that is cut in slices, with its visits or without them
abbrev pub EachSlicing : (Bool → SnapshotValue → List (Option ℕ) → Type 0) → Type 0
EachSlicing P = (keeps : Bool) (v : SnapshotValue) → IsSnapshot v → (mosts : List (Option ℕ)) → P keeps v mosts

-- the reports of the slices add up to the report of the stretch up to t
abbrev pub SlicesAddUp : Bool → SnapshotValue → List (Option ℕ) → StateValue → Type 0
SlicesAddUp keeps v mosts t = sum_of (slice_reports keeps v mosts) ≡ report_up_to keeps v t

-- the last of the slices stops at the end of the snapshot's branch
abbrev pub SlicesEnd : SnapshotValue → List (Option ℕ) → Type 0
SlicesEnd v mosts = (sliced v mosts).state ≡ branch_end v

-- the reports of the slices add up to the report of the whole rest of that branch
abbrev pub AddUpToEnd : Bool → SnapshotValue → List (Option ℕ) → Type 0
AddUpToEnd keeps v mosts = SlicesAddUp keeps v mosts (branch_end v)

-- branches of one problem's run that join from s to t: the first is at s, each later one is where the one before ends, and the last
-- one ends at t
abbrev pub AreJoined : ProblemValue → StateValue → List SnapshotValue → StateValue → Type 0
AreJoined p s [] t = s ≡ t
AreJoined p s (v ∷ vs) t = IsSnapshot v × (v.problem ≡ p) × (v.state ≡ s) × AreJoined p (branch_end v) vs t

-- the report of each of them, from its state up to its branch's end
abbrev pub part_reports : Bool → List SnapshotValue → List ReportValue
part_reports keeps [] = []
part_reports keeps (v ∷ vs) = report_up_to keeps v (branch_end v) ∷ part_reports keeps vs

-- what is true of all these reports as one, wherever branches of a problem's run join from a state to another
abbrev pub EachJoin : (Bool → ProblemValue → StateValue → StateValue → ReportValue → Type 0) → Type 0
EachJoin P = (keeps : Bool) (p : ProblemValue) (s t : StateValue) → (parts : List SnapshotValue) → Fits p s → AreJoined p s parts t →
    P keeps p s t (sum_of (part_reports keeps parts))

-- and wherever they join from the start of the run to its end
abbrev pub EachWholeJoin : (Bool → ProblemValue → ReportValue → Type 0) → Type 0
EachWholeJoin P = (keeps : Bool) (p : ProblemValue) (parts : List SnapshotValue) → AreJoined p start parts done →
    P keeps p (sum_of (part_reports keeps parts))
