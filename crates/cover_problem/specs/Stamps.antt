-- Marks of items: how a reader knows the items of an option without going through it.
use Rattle.std.specs.Prelude.{ℕ, suc, ◌<◌, ◌≤◌, ◌≡◌, ◌==◌, List, length, slice_index, sum_by, true}
use Rattle.std.specs.List.{All, list_all}
use Rattle.shared_words.specs.Lists.{has}
use Rattle.cover_problem.specs.Problem.{ProblemValue, is_name, is_small}

-- each item has a mark, which is the stamp where the item is in the list, and lower where it isn't
pub record AreStamps (stamp : ℕ) (items marks : List ℕ) : Type 0 where
  pub low : (i : ℕ) → i < length marks → slice_index marks i ≤ stamp
  pub taken : (i : ℕ) → i < length marks → (slice_index marks i == stamp) ≡ has items (suc i)

-- what a draft of a problem keeps beside it: how many items its options have together, and a mark for each item that is at
-- most the number of the last option
pub record IsDraft (p : ProblemValue) (entries : ℕ) (marks : List ℕ) : Type 0 where
  pub small : is_small p ≡ true
  pub within : p.primary ≤ length p.names
  pub named : list_all is_name p.names ≡ true
  pub counted : entries ≡ sum_by length p.options
  pub marked : length marks ≡ length p.names
  pub old : All (λ mark. mark ≤ length p.options) marks
