-- Which items can be covered one after another.
use Rattle.std.specs.Prelude.{ℕ, ◌<◌, ◌≤◌, ◌≡◌, false, List, [], ◌∷◌, ◌++◌, length}
use Rattle.shared_words.specs.Lists.{has}
use Rattle.cover_problem.specs.Problem.{ProblemValue}

-- i is an item that is not covered
pub record IsUncovered (p : ProblemValue) (c : List ℕ) (i : ℕ) : Type 0 where
  pub some : 0 < i
  pub within : i ≤ length p.names
  pub uncovered : has c i ≡ false

-- each of the items is uncovered once those before it are covered too
abbrev pub CanCover : ProblemValue → List ℕ → List ℕ → Type 0
CanCover p c [] = Unit {0}
CanCover p c (i ∷ items) = IsUncovered p c i × CanCover p (c ++ i ∷ []) items
