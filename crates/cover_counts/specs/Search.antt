-- A search in progress: which items its table covers, and the sets of items left that it has taken up.
use Rattle.std.specs.Prelude.{ℕ, suc, ◌-◌, ◌≡◌, ◌<◌, ◌++◌, List, [], ◌∷◌, Option, Some, None, length, sum_by, IfSome}
use Rattle.shared_words.specs.Lists.{above}
use Rattle.cover_problem.specs.Problem.{ProblemValue, IsProblem}
use Rattle.cover_problem.specs.Covering.{active, remaining, choice}
use Rattle.cover_problem.specs.Path.{taken, IsChoice}
use Rattle.cover_problem.specs.Table.{IsCoveredList}
use Rattle.kept_counts.specs.Below.{states_below, visits_below}
use Rattle.cover_counts.specs.declared.search.Open.{Open}
use Rattle.cover_counts.specs.Below.{states_at}
use Rattle.cover_counts.specs.Keys.{IsKeyOf}

-- a table of the problem q is one of p, and covers the list c
pub record IsTableOf (p q : ProblemValue) (c : List ℕ) : Type 0 where
  pub same : q ≡ p
  pub problem : IsProblem p
  pub covered : IsCoveredList p c

-- the set that c leaves was taken up: what lies below the options that are gone was counted, and the next option is the first of the rest
pub record IsTaken (p : ProblemValue) (c : List ℕ) (top : Open) : Type 0 where
  pub listed : IsCoveredList p c
  pub active : 0 < length (active p c)
  pub item : top.item ≡ choice p c
  pub key : IfSome top.key (λ k. IsKeyOf (length p.names) c k.items)
  pub gone : List ℕ
  pub rest : List ℕ
  pub whole : remaining p c (choice p c) ≡ gone ++ rest
  pub first : top.next ≡ above 0 rest
  pub visited : top.below.visits ≡ sum_by (λ o. visits_below p (taken p c o)) gone
  pub here : states_at top.below 0 ≡ 1
  pub at : (k : ℕ) → states_at top.below (suc k) ≡ sum_by (λ o. states_below p k (taken p c o)) gone

-- sets were taken up one below the other: c is covered at the first one, and the next option of each leads on, the last one's to d
abbrev pub LeadsDown : ProblemValue → List ℕ → List Open → List ℕ → Type 0
LeadsDown p c [] d = c ≡ d
LeadsDown p c (top ∷ rest) d = IsTaken p c top × ((o : ℕ) × (top.next ≡ Some o) × LeadsDown p (taken p c o) rest d)

-- an option of the set that c leaves was entered, and now d is covered
pub record IsEntered (p : ProblemValue) (c d : List ℕ) (item option : ℕ) : Type 0 where
  pub listed : IsCoveredList p c
  pub chosen : item ≡ choice p c
  pub choice : IsChoice p c option
  pub covered : d ≡ taken p c option

-- the lower set was taken up below the next option of the upper one, and its options are all gone
pub record IsCounted (p : ProblemValue) (c d : List ℕ) (upper lower : Open) : Type 0 where
  pub parent : IsTaken p c upper
  pub option : ℕ
  pub next : upper.next ≡ Some option
  pub covered : d ≡ taken p c option
  pub top : IsTaken p d lower
  pub none : lower.next ≡ None

-- no more options than these are left, from the next one on
abbrev pub left_of : ProblemValue → Option ℕ → ℕ
left_of p None = 0
left_of p (Some o) = suc (length p.options) - o
