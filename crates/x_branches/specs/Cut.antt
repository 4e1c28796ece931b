-- Where a run is parted: the choices of a state, and cuts.
--
-- Example: in the small problem the cut 4 5 has the state X5 at option 5 with the path 4 (computed in
-- proofs/CutExamples.antt).
use Rattle.std.specs.Prelude.{ℕ, ◌<◌, Option, Some, List, [], ◌∷◌, ◌++◌, length}
use Rattle.std.specs.Prelude as prelude
use Rattle.cover_problem.specs.Problem.{ProblemValue}
use Rattle.cover_problem.specs.Path.{IsValid}
use Rattle.x_steps.specs.declared.state.Label.TheVariants.{X5}
use Rattle.x_steps.specs.declared.state.Cursor.{Cursor}
use Rattle.x_steps.specs.declared.state.Cursor.TheVariants.{At}
use Rattle.x_steps.specs.StateValue.{StateValue, at, start}
use Rattle.x_steps.specs.Steps.{split_last}

-- the option of a cursor, if it is at one
abbrev pub cursor_option : Cursor → List ℕ
cursor_option (At o) = o ∷ []
cursor_option k = []

-- the choices of a state: its path, and then the cursor's option if there is one
abbrev pub choices : StateValue → List ℕ
choices s = s.path ++ cursor_option s.cursor

-- X5 at the last choice, after the others; X1 where there are no choices
abbrev pub state_after_choices : Option (List ℕ × ℕ) → StateValue
state_after_choices prelude.None = start
state_after_choices (Some s) = at X5 s.0 (At s.1)

-- the state of a cut: all but the last choice are its path, and the last its cursor
unfoldable pub cut_state : List ℕ → StateValue
cut_state path = state_after_choices (split_last path)

-- a cut: a path that isn't empty, and that the search can take
pub record IsCut (p : ProblemValue) (path : List ℕ) : Type 0 where
  pub some : 0 < length path
  pub valid : IsValid p path

-- a path that is no cut
abbrev pub IsNoCut : ProblemValue → List ℕ → Type 0
IsNoCut p path = IsCut p path → ⊥

-- a problem with a path of its search
pub record CutPath : Type 0 where
  pub problem : ProblemValue
  pub path : List ℕ

-- the cut of a path
abbrev pub path_cut : ProblemValue → List ℕ → CutPath
path_cut p path = record { problem = p; path = path }
