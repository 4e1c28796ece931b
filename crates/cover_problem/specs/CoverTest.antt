-- How often options have an item: the words by which an exact cover is tested.
--
-- Example: of the options 1, 4 and 5 of the small problem (c e, a d f, b g) one has the item a.
-- proofs/CoverExamples.antt computes it.
use Rattle.std.specs.Prelude.{ℕ, ◌==◌, nat_le, Bool, ◌&&◌, List, length, count_by, if◌then◌else◌}
use Rattle.std.specs.List.{list_any, list_all}
use Rattle.shared_words.specs.Lists.{has, numbers}
use Rattle.cover_problem.specs.Problem.{ProblemValue, option_at, is_item}

-- how many of the options have the item
abbrev pub occurrences : ProblemValue → List ℕ → ℕ → ℕ
occurrences p chosen i = count_by (λ k. has (option_at p k) i) chosen

-- whether it is in as many of the options as it may be: a primary item in one, another in at most one
abbrev pub has_right_count : ProblemValue → List ℕ → ℕ → Bool
has_right_count p chosen i = if nat_le i p.primary then occurrences p chosen i == 1 else nat_le (occurrences p chosen i) 1

-- whether an option has a primary item
abbrev pub has_primary_item : ProblemValue → ℕ → Bool
has_primary_item p k = list_any (λ i. nat_le i p.primary) (option_at p k)

-- whether each number is an option's
abbrev pub are_options : ProblemValue → List ℕ → Bool
are_options p chosen = list_all (is_item (length p.options)) chosen

-- whether each item is in as many of the options as it may be
abbrev pub have_right_counts : ProblemValue → List ℕ → Bool
have_right_counts p chosen = list_all (has_right_count p chosen) (numbers (length p.names) 1)

-- whether each option has a primary item
abbrev pub are_useful : ProblemValue → List ℕ → Bool
are_useful p chosen = list_all (has_primary_item p) chosen

-- whether numbers pass each test of an exact cover: they are options, each item is in as many of them as it may be, and each
-- has a primary item
abbrev pub is_cover : ProblemValue → List ℕ → Bool
is_cover p chosen = are_options p chosen && have_right_counts p chosen && are_useful p chosen
