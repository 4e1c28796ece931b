-- What a search finds below a path: the visits, and the X2 states at each level further down. It hangs on the covered items alone.
-- TAOCP volume 4B, section 7.2.2.1: the sizes of Algorithm X's search tree.
use Rattle.std.specs.Prelude.{ℕ, zero, suc, ◌≡◌, ◌≤◌, ◌<◌, nat_lt, List, [], length, sum_by, if◌then◌else◌}
use Rattle.shared_words.specs.Lists.{has}
use Rattle.cover_problem.specs.Problem.{ProblemValue}
use Rattle.cover_problem.specs.Covering.{active, remaining, choice}
use Rattle.cover_problem.specs.Path.{taken}

-- the options by which a search goes on where c is covered: those left for the item chosen, and none where no item is active
unfoldable pub tried_options : ProblemValue → List ℕ → List ℕ
tried_options p c = if nat_lt 0 (length (active p c)) then remaining p c (choice p c) else []

-- the X2 states k levels below one where c is covered
abbrev pub states_below : ProblemValue → ℕ → List ℕ → ℕ
states_below p zero c = 1
states_below p (suc k) c = sum_by (λ o. states_below p k (taken p c o)) (tried_options p c)

-- the visits at most n levels below it: one where no item is active, else those below its choices
abbrev pub visits_within : ProblemValue → ℕ → List ℕ → ℕ
visits_within p zero c = 1
visits_within p (suc n) c = if nat_lt 0 (length (active p c)) then sum_by (λ o. visits_within p n (taken p c o)) (tried_options p c) else 1

-- the visits below it: each choice covers an active item, so there are no more levels than active items
unfoldable pub visits_below : ProblemValue → List ℕ → ℕ
visits_below p c = visits_within p (length (active p c)) c

-- the two lists have the same items
abbrev pub CoverTheSame : List ℕ → List ℕ → Type 0
CoverTheSame c d = (i : ℕ) → has c i ≡ has d i

-- of n items the two lists have the same
abbrev pub CoverTheSameOf : ℕ → List ℕ → List ℕ → Type 0
CoverTheSameOf n c d = (i : ℕ) → 0 < i → i ≤ n → has c i ≡ has d i
