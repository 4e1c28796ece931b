-- What is counted of a part, the lines of its answer, and the sum of all parts.
--
-- Example: the levels 1 1 1 and then 0 1 1 1 add up to 1 2 2 1, and the answer of a part with a visit, 20 steps and the levels 1 1 1 is
-- `visits 1`, `steps 20`, `levels 1 1 1`, `end`. From the small problem's start to the cut 4 no visit and these levels ask for 20 steps: 8
-- for each of three states, with 1 that is owed at the start, and less 5 that are owed at the cut. proofs/SumExamples.antt computes each.
use Rattle.std.specs.Prelude.{ℕ, ◌≡◌, ◌+◌, ◌-◌, ◌*◌, ◌==◌, nat_le, Bool, true, List, [], ◌∷◌, length, map, sum, decimal, codes, Some, slice_get}
use Rattle.std.specs.List.{list_all}
use Rattle.cover_problem.specs.Problem.{ProblemValue}
use Rattle.cover_counts.specs.Digits.{numeral}
use Rattle.cover_counts.specs.declared.counts.Counts.{Counts}
use Rattle.x_steps.specs.StateValue.{StateValue}
use Rattle.kept_counts.specs.Owed.{owed}
use Rattle.part_sums.specs.declared.total.Counted.{Counted}
use Rattle.part_sums.specs.declared.total.Counted.TheVariants.{Covers, Packings}

-- how many visits and steps there are, and how many X2 states at each level from 0 on
pub record CountsValue : Type 0 where
  pub visits : ℕ
  pub steps : ℕ
  pub levels : List ℕ

-- the counts that have these numbers
abbrev pub counts_with : ℕ → ℕ → List ℕ → CountsValue
counts_with visits steps levels = record { visits = visits; steps = steps; levels = levels }

-- counts, without where they lie in memory
abbrev pub counts_value : Counts → CountsValue
counts_value c = counts_with c.visits c.steps c.levels.items

-- the counts of no step
abbrev pub no_counts : CountsValue
no_counts = counts_with 0 0 []

-- counts of levels, added level by level
abbrev pub levels_sum : List ℕ → List ℕ → List ℕ
levels_sum [] ys = ys
levels_sum (x ∷ xs) [] = x ∷ xs
levels_sum (x ∷ xs) (y ∷ ys) = (x + y) ∷ levels_sum xs ys

-- two counts added
abbrev pub both_counts : CountsValue → CountsValue → CountsValue
both_counts a b = counts_with (a.visits + b.visits) (a.steps + b.steps) (levels_sum a.levels b.levels)

-- all of these counts added
abbrev pub all_counts_sum : List CountsValue → CountsValue
all_counts_sum [] = no_counts
all_counts_sum (c ∷ cs) = both_counts c (all_counts_sum cs)

-- the words of a line with one number
abbrev pub count_line : List ℕ → ℕ → List (List ℕ)
count_line key n = key ∷ numeral n ∷ []

-- the words of the line of the levels, level 0 at least
abbrev pub levels_line : List ℕ → List (List ℕ)
levels_line [] = codes "levels" ∷ codes "0" ∷ []
levels_line (n ∷ ns) = codes "levels" ∷ map numeral (n ∷ ns)

-- the lines of the steps and the levels
abbrev pub steps_lines : CountsValue → List (List (List ℕ))
steps_lines c = count_line (codes "steps") c.steps ∷ levels_line c.levels ∷ []

-- the answer of a part that was counted to its end
abbrev pub answer_lines : CountsValue → List (List (List ℕ))
answer_lines c =
    count_line (codes "visits") c.visits ∷ count_line (codes "steps") c.steps ∷ levels_line c.levels ∷ (codes "end" ∷ []) ∷ []

-- the lines of the sum, of a cover text or of a puzzle's problem
abbrev pub sum_lines : Counted → ProblemValue → CountsValue → List (List (List ℕ))
sum_lines Covers p c = count_line (codes "visits") c.visits ∷ steps_lines c
sum_lines Packings p c =
    count_line (codes "packings") c.visits ∷ (codes "options" ∷ decimal (length p.options) ∷ []) ∷ steps_lines c

-- the most digits of a number that is read
abbrev pub most_digits : ℕ
most_digits = 1000

-- a number that has no more digits
abbrev pub is_short : ℕ → Bool
is_short n = nat_le (length (numeral n)) most_digits

-- counts that an answer may have: no number is too long, and the last level has a state
pub record IsAnswer (c : CountsValue) : Type 0 where
  pub visits : is_short c.visits ≡ true
  pub steps : is_short c.steps ≡ true
  pub levels : list_all is_short c.levels ≡ true
  pub last : slice_get c.levels (length c.levels - 1) ≡ Some 0 → ⊥

-- counts that a stretch from s to t can have: the steps, with what is owed at t and four for each visit, are eight for each X2 state, with
-- what is owed at s
abbrev pub HasNumbersOf : StateValue → StateValue → CountsValue → Type 0
HasNumbersOf s t c = c.steps + owed t + 4 * c.visits ≡ 8 * sum c.levels + owed s

-- the test of that
abbrev pub has_numbers_of : StateValue → StateValue → CountsValue → Bool
has_numbers_of s t c = (c.steps + owed t + 4 * c.visits) == (8 * sum c.levels + owed s)
