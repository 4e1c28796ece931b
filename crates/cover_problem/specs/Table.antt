-- What a table stands for: a problem, and the list of the items that are covered.
--
-- Example: in the small problem a, d and g (1 4 7) may be the covered items. proofs/CoverExamples.antt computes it.
use Rattle.std.specs.Prelude.{ℕ, ◌≡◌, true, List, length}
use Rattle.std.specs.List.{list_all}
use Rattle.shared_words.specs.Lists.{are_distinct}
use Rattle.cover_problem.specs.Problem.{ProblemValue, is_item}

-- a problem, and the items covered, in the order in which they were covered
pub record TableValue : Type 0 where
  pub problem : ProblemValue
  pub covered : List ℕ

-- the covered items are distinct items of the problem
pub record IsCoveredList (p : ProblemValue) (c : List ℕ) : Type 0 where
  pub distinct : are_distinct c ≡ true
  pub items : list_all (is_item (length p.names)) c ≡ true
