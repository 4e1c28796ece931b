-- The snapshot that a text is, or the first fault of it: what is said by its lines, and then whether the cuts and the state are on
-- the run and within the branch.
--
-- Example: in the small problem 4 5 1 is a path that the search can take, and 3 is none: no item that is chosen has it left.
-- proofs/JudgedExamples.antt computes it.
use Rattle.std.specs.Prelude.{ℕ, nat_lt, Bool, true, false, not, ◌&&◌, if◌then◌else◌, List, [], ◌∷◌, length, Option, Some, Result, Ok, Err}
use Rattle.std.specs.Prelude as prelude
use Rattle.shared_words.specs.Lists.{has}
use Rattle.cover_problem.specs.Problem.{ProblemValue}
use Rattle.cover_problem.specs.Covering.{active, remaining, choice}
use Rattle.cover_problem.specs.Path.{taken, covered_by}
use Rattle.x_steps.specs.declared.state.Label.{Label}
use Rattle.x_steps.specs.declared.state.Label.TheVariants.{X1, X2, X3, X4, X5, X6, X7, X8, Done}
use Rattle.x_steps.specs.declared.state.Cursor.{Cursor}
use Rattle.x_steps.specs.declared.state.Cursor.TheVariants as cursor
use Rattle.x_steps.specs.declared.state.Cursor.TheVariants.{At, Past}
use Rattle.x_steps.specs.StateValue.{StateValue}
use Rattle.x_steps.specs.Steps.{is_open}
use Rattle.x_branches.specs.declared.branch.Branch.{Branch}
use Rattle.x_branches.specs.RunOrder.{comes_before}
use Rattle.x_branches.specs.Branch.{first_of, end_of}
use Rattle.x_snapshot.specs.declared.fault.SnapshotFault.{SnapshotFault}
use Rattle.x_snapshot.specs.declared.fault.SnapshotFault.TheVariants.{NotOnRun, OutsideBranch}
use Rattle.x_snapshot.specs.Snapshot.{SnapshotValue, branch_between}
use Rattle.x_snapshot.specs.Reader.{parts_of}

-- whether an item is active, and the option left for the one that is chosen
abbrev pub is_choice : ProblemValue → List ℕ → ℕ → Bool
is_choice p c o = nat_lt 0 (length (active p c)) && has (remaining p c (choice p c)) o

-- whether a search can take these choices, one after the other
abbrev pub is_valid_from : ProblemValue → List ℕ → List ℕ → Bool
is_valid_from p c [] = true
is_valid_from p c (o ∷ path) = is_choice p c o && is_valid_from p (taken p c o) path

-- the same from the beginning, where nothing is covered: whether the path is one of the search
abbrev pub is_valid : ProblemValue → List ℕ → Bool
is_valid p path = is_valid_from p [] path

-- whether a path is empty
abbrev pub is_none : List ℕ → Bool
is_none [] = true
is_none (o ∷ path) = false

-- whether a state is one of the search
abbrev pub is_fit_at : ProblemValue → Label → List ℕ → Cursor → Bool
is_fit_at p X1 path cursor.None = is_none path
is_fit_at p X2 path cursor.None = is_valid p path
is_fit_at p X3 path cursor.None = is_valid p path && is_open p path
is_fit_at p X4 path cursor.None = is_valid p path && is_open p path
is_fit_at p X5 path (At o) = is_valid p path && is_choice p (covered_by p path) o
is_fit_at p X5 path Past = is_valid p path && is_open p path
is_fit_at p X6 path (At o) = is_valid p path && is_choice p (covered_by p path) o
is_fit_at p X7 path cursor.None = is_valid p path && is_open p path
is_fit_at p X8 path cursor.None = is_valid p path
is_fit_at p Done path cursor.None = is_none path
is_fit_at p _ path _ = false

-- the same of a state s, by its label, its path and its cursor
abbrev pub is_fit : ProblemValue → StateValue → Bool
is_fit p s = is_fit_at p s.label s.path s.cursor

-- whether a path, if there is one, is a cut
abbrev pub is_cut_if_any : ProblemValue → Option (List ℕ) → Bool
is_cut_if_any p prelude.None = true
is_cut_if_any p (Some path) = nat_lt 0 (length path) && is_valid p path

-- whether the cuts and the state are on the run
unfoldable pub is_on_run : SnapshotValue → Bool
is_on_run v = is_cut_if_any v.problem v.lo && (is_cut_if_any v.problem v.hi && is_fit v.problem v.state)

-- whether a branch begins before its end, and a state is neither before its first state nor after its end
abbrev pub is_in_branch : ProblemValue → Branch → StateValue → Bool
is_in_branch p b s =
    comes_before p (first_of b.lo) (end_of b.hi)
    && (not (comes_before p s (first_of b.lo)) && not (comes_before p (end_of b.hi) s))

-- whether the cuts of a snapshot bound a branch in this order, and its state is within that branch
unfoldable pub is_inside : SnapshotValue → Bool
is_inside v = is_in_branch v.problem (branch_between v.problem v.lo v.hi) v.state

-- what is said, if it is so
abbrev pub judged_parts : SnapshotValue → Result SnapshotValue SnapshotFault
judged_parts v = if is_on_run v then (if is_inside v then Ok v else Err OutsideBranch) else Err NotOnRun

-- what was read of a text, judged so: a fault that the reading found stays the first
abbrev pub judged : Result SnapshotValue SnapshotFault → Result SnapshotValue SnapshotFault
judged (Ok v) = judged_parts v
judged (Err f) = Err f

-- the snapshot that a text is, or its first fault
abbrev pub snapshot_of : List ℕ → Result SnapshotValue SnapshotFault
snapshot_of text = judged (parts_of text)
