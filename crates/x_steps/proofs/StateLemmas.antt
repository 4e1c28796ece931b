-- What a step covers and uncovers, and what a machine finds on the covered list.
use Rattle.std.proofs.Common.{◌≡◌, ℕ, ◌<◌, List, ◌∷◌, ◌++◌, length, get_or, refl, arith}
use Rattle.std.proofs.lemmas.List.{get_or_at}
use Rattle.cover_problem.specs.Problem.{ProblemValue, IsProblem}
use Rattle.cover_problem.specs.Covering.{list_of}
use Rattle.cover_problem.specs.Path.{IsValid, covered_by}
use Rattle.cover_problem.specs.Coverable.{IsUncovered}
use Rattle.cover_problem.proofs.ActiveLemmas.{active_item}
use Rattle.cover_problem.proofs.RemainingLemmas.{list_covered, list_uncovered, choice_active}
use Rattle.cover_problem.proofs.PathLemmas.{depth}
use Rattle.x_steps.specs.Steps.{IsOpen, item_after, remaining_after}

-- ---- where an item is active

-- what is known at a level that is open
pub record IsLevel (p : ProblemValue) (path : List ℕ) : Type 0 where
  -- the chosen item can be covered
  pub item : IsUncovered p (covered_by p path) (item_after p path)
  -- its list is what is left, before it is covered and from then on
  pub list : list_of p (covered_by p path) (item_after p path) ≡ remaining_after p path
  pub list_covered : (more : List ℕ) → list_of p (covered_by p path ++ item_after p path ∷ more) (item_after p path) ≡ remaining_after p path
  -- it stands on the covered list behind what the path covers
  pub place : (more : List ℕ) (d : ℕ) → get_or (covered_by p path ++ item_after p path ∷ more) (length (covered_by p path)) d ≡ item_after p path
  -- the path has room for one more choice
  pub room : length path < length p.names

pub level_is : (p : ProblemValue) (path : List ℕ) → IsProblem p → IsValid p path → IsOpen p path → IsLevel p path
level_is p path s v h =
    let u = active_item p (covered_by p path) (item_after p path) s (choice_active p (covered_by p path) h) in
    let d = depth p path v in
    record {
      item = u;
      list = list_uncovered p (covered_by p path) (item_after p path) u.uncovered;
      list_covered = λ more. list_covered p (covered_by p path) (item_after p path) more u.uncovered;
      place = λ more d. get_or_at (covered_by p path) (item_after p path) more d (length (covered_by p path)) refl;
      room = omega (arith, s.within);
    }
