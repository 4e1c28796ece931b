-- What the levels of a path show, one after another, of what is covered and of what is untried.
use Rattle.std.proofs.Common.{◌≡◌, ℕ, suc, ◌+◌, ◌≤◌, ◌<◌, List, [], ◌∷◌, ◌++◌, length, map, take, get_or, sym, ap, ◌∙◌, arith}
use Rattle.std.proofs.lemmas.List.{map-append}
use Rattle.shared_words.specs.Lists.{numbers}
use Rattle.cover_problem.specs.Problem.{ProblemValue, IsProblem, option_at}
use Rattle.cover_problem.specs.Path.{covered_by}
use Rattle.cover_problem.proofs.NumberLemmas.{numbers_push}
use Rattle.x_steps.specs.StateValue.{StateValue}
use Rattle.x_steps.specs.Steps.{Fits, item_after, covered_in}
use Rattle.x_steps.proofs.OrderLemmas.{fits_valid}
use Rattle.x_branches.specs.Cut.{choices}
use Rattle.x_branches.specs.Runner.{RunnerValue, covered_before}
use Rattle.x_branches.specs.Refusals.{untried_in}
use Rattle.x_branches.proofs.StageLemmas.{IsNumber, choice_in}
use Rattle.x_branches.proofs.UntriedLemmas.{IsAtLevel, at_level, covered_within, covered_more}
use Rattle.x_branches.proofs.FirstLemmas.{path_choice, path_front}

-- what is known at a level of the path, and of what its choice covers
pub record IsPassed (p : ProblemValue) (s : StateValue) (level : ℕ) : Type 0 where
  pub choice : IsNumber (length p.options) (get_or s.path level 0)
  pub here : IsAtLevel p s level (get_or s.path level 0) (item_after p (take level (choices s)))
  pub count : length (covered_by p (take (level + 1) (choices s))) ≡ length (covered_by p (take level (choices s))) + length (option_at p (get_or s.path level 0))
  pub most : length (covered_by p (take (level + 1) (choices s))) ≤ length (covered_in p s)

pub is_passed : (p : ProblemValue) (s : StateValue) (level : ℕ) → IsProblem p → Fits p s → level < length s.path → IsPassed p s level
is_passed p s level sound f l =
    let v = fits_valid p s.label s.path s.cursor f in
    let before = path_front s level (omega arith) in
    let after = path_front s (level + 1) (omega arith) in
    record {
      choice = choice_in p s.path level v l;
      here = at_level p s level (get_or s.path level 0) sound f (path_choice s level l);
      count = rw (before, after) (covered_more p s.path level v l);
      most = rw after (covered_within p s (level + 1) f);
    }

-- what a runner leaves untried at each level below one
abbrev pub untried_below : RunnerValue → ℕ → List (List ℕ)
untried_below r level = map (untried_in r) (numbers level 0)

pub one_level_more : (r : RunnerValue) (level : ℕ) → untried_below r level ++ untried_in r level ∷ [] ≡ untried_below r (level + 1)
one_level_more r level =
    let s : level + 1 ≡ suc level = omega arith in
    let z : 0 + level ≡ level = omega arith in
    let n : numbers (level + 1) 0 ≡ numbers level 0 ++ level ∷ [] =
    ap (λ m. numbers m 0) s ∙ numbers_push level 0 ∙ ap (λ m. numbers level 0 ++ m ∷ []) z in
    sym (ap (map (untried_in r)) n ∙ map-append (untried_in r) (numbers level 0) (level ∷ []))

-- these are listed, and so many items are covered by the choices before the level
pub record AreListed (r : RunnerValue) (level covered : ℕ) (lists : List (List ℕ)) : Type 0 where
  pub lists_are : lists ≡ untried_below r level
  pub count : covered ≡ length (covered_before r level)

pub listed_more : (r : RunnerValue) (level covered next : ℕ) (lists new : List (List ℕ)) (options : List ℕ) → AreListed r level covered lists
    → options ≡ untried_in r level → next ≡ length (covered_before r (level + 1)) → new ≡ lists ++ options ∷ [] → AreListed r (level + 1) next new
listed_more r level covered next lists new options l e c n = record { lists_are = n ∙ rw (l.lists_are, e) (one_level_more r level); count = c }
