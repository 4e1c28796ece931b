-- What a table that scans keeps, beside the problem and the list of the covered items.
--
-- Example: in the small problem the item d is in the options 2, 4 and 6; once a, d and g are covered, d's time is 1.
-- proofs/ValidationExamples.antt computes it.
use Rattle.std.specs.Prelude.{ℕ, ◌<◌, ◌+◌, ◌++◌, ◌∷◌, ◌≤◌, ◌≡◌, Bool, not, List, length, filter, map, if◌then◌else◌, ◌==◌, ◌-◌, [], nat_lt}
use Rattle.std.specs.List.{position_or_len, slice_index_or, list_any}
use Rattle.shared_words.specs.Lists.{has, numbers}
use Rattle.cover_problem.specs.Problem.{ProblemValue, IsProblem}
use Rattle.cover_problem.specs.Table.{IsCoveredList, TableValue}

-- of these options, numbered from 1, those with the item, rising
abbrev pub holding : List (List ℕ) → ℕ → List ℕ
holding options i = filter (λ k. has (slice_index_or options (k - 1) []) i) (numbers (length options) 1)

-- for each of n items the options that have it
abbrev pub holders_of : ℕ → List (List ℕ) → List (List ℕ)
holders_of n options = map (holding options) (numbers n 1)

-- when the item was covered: how many were covered before it; or never, which is later than each
abbrev pub time_of : ℕ → List ℕ → ℕ → ℕ
time_of never c i = if has c i then position_or_len (λ x. x == i) c else never

-- for each of n items when it was covered
abbrev pub times_of : ℕ → ℕ → List ℕ → List ℕ
times_of never n c = map (time_of never c) (numbers n 1)

-- when an item was covered, as these times tell
abbrev pub time_in : List ℕ → ℕ → ℕ
time_in times i = slice_index_or times (i - 1) 0

-- whether none of the items of the option numbered k was covered before this time
abbrev pub is_in : List (List ℕ) → List ℕ → ℕ → ℕ → Bool
is_in options times limit k = not (list_any (λ i. nat_lt (time_in times i) limit) (slice_index_or options (k - 1) []))

-- the same of a table
unfoldable pub was_in : ℕ → TableValue → ℕ → ℕ → Bool
was_in never t limit k = is_in t.problem.options (times_of never (length t.problem.names) t.covered) limit k

-- the fields are those of the problem, with these items covered and room for all
pub record IsPlain (p : ProblemValue) (primary : ℕ) (options holders : List (List ℕ))
    (covered : List ℕ) (times : List ℕ) (never room : ℕ) : Type 0 where
  pub sound : IsProblem p
  pub primary_is : primary ≡ p.primary
  pub options_are : options ≡ p.options
  pub holders_are : holders ≡ holders_of (length p.names) p.options
  pub distinct : IsCoveredList p covered
  pub times_are : times ≡ times_of never (length p.names) covered
  pub fits : length p.names ≤ room

-- each list has the option once more, where it is an item's of the option
pub record IsNoted (k : ℕ) (option : List ℕ) (old new : List (List ℕ)) : Type 0 where
  pub long : length new ≡ length old
  pub at : (j : ℕ) → j < length old → slice_index_or new j [] ≡ slice_index_or old j [] ++ (if has option (j + 1) then k ∷ [] else [])
