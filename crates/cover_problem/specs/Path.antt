-- Which items are covered after a list of choices, in order, and which such lists a search can make.
-- TAOCP volume 4B, section 7.2.2.1, steps X4 and X5: the chosen item is covered first, then the other items of the option,
-- from the one after the chosen item to the option's end, and on from the option's first.
--
-- Example: in the small problem the path 2 covers a d g; the path 2 3 covers a d g b c f.
-- proofs/CoverExamples.antt computes it.
use Rattle.std.specs.Prelude.{ℕ, ◌<◌, ◌≡◌, ◌==◌, true, List, [], ◌∷◌, ◌++◌, length}
use Rattle.std.specs.List.{before_first, after_first}
use Rattle.shared_words.specs.Lists.{has}
use Rattle.cover_problem.specs.Problem.{ProblemValue, option_at}
use Rattle.cover_problem.specs.Covering.{active, remaining, choice}

-- the other items of the option, from the one after i to its end and on from its first
abbrev pub others : ℕ → List ℕ → List ℕ
others i option = after_first (λ x. x == i) option ++ before_first (λ x. x == i) option

-- what is covered once the option was taken, where c was covered before
unfoldable pub taken : ProblemValue → List ℕ → ℕ → List ℕ
taken p c o = c ++ choice p c ∷ others (choice p c) (option_at p o)

-- an item is active, and the option is left for the one that is chosen
pub record IsChoice (p : ProblemValue) (c : List ℕ) (o : ℕ) : Type 0 where
  pub active : 0 < length (active p c)
  pub left : has (remaining p c (choice p c)) o ≡ true

-- what is covered after c and these choices
abbrev pub covered_from : ProblemValue → List ℕ → List ℕ → List ℕ
covered_from p c [] = c
covered_from p c (o ∷ path) = covered_from p (taken p c o) path

-- each option is left for the item that is chosen when it is taken
abbrev pub IsValidFrom : ProblemValue → List ℕ → List ℕ → Type 0
IsValidFrom p c [] = Unit {0}
IsValidFrom p c (o ∷ path) = IsChoice p c o × IsValidFrom p (taken p c o) path

-- what is covered after a path, in the order of covering
unfoldable pub covered_by : ProblemValue → List ℕ → List ℕ
covered_by p path = covered_from p [] path

-- a path that a search can take
unfoldable pub IsValid : ProblemValue → List ℕ → Type 0
IsValid p path = IsValidFrom p [] path
