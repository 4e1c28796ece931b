-- Words of 64 options.
use Rattle.std.specs.Prelude.{ℕ, ◌≡◌, ◌<◌, ◌≤◌, ◌+◌, ◌/◌, length}
use Rattle.cover_problem.specs.Problem.{ProblemValue}
use Rattle.table_probe.specs.declared.words.Words.{Words}

-- there is a count for the word of each option
abbrev pub HasWords : ProblemValue → Words → Type 0
HasWords p w = length w.left.items ≡ length p.options / 64 + 1

-- a table of the problem serves the item
pub record ServesItem (p : ProblemValue) (table : ProblemValue) (item : ℕ) : Type 0 where
  pub same : table ≡ p
  pub some : 0 < item
  pub within : item ≤ length p.names
