-- What an exact cover problem is.
-- TAOCP volume 4B, section 7.2.2.1: items, the primary ones first, and options.
--
-- Example: the small problem has the items a to g, all of them primary, and the options
-- c e, a d g, b c f, a d f, b g and d e g, numbered from 1.
-- Its table has 31 entries. proofs/CoverExamples.antt computes it.
use Rattle.std.specs.Prelude.{ℕ, ◌+◌, ◌-◌, ◌≤◌, ◌<◌, ◌≡◌, nat_lt, nat_le, ◌==◌, Bool, true, not, ◌&&◌, ◌||◌, List, [], ◌∷◌, length}
use Rattle.std.specs.Prelude.{sum_by, Option, option_map, position}
use Rattle.std.specs.List.{list_all, list_any, slice_index_or}
use Rattle.std.specs.Str.{bytes_eq}
use Rattle.std.specs.Cmp.Lexicographic.{pointwise}
use Rattle.cover_problem.specs.Limits.{most_items, most_options, most_entries, most_name_bytes}
use Rattle.shared_words.specs.Lists.{are_distinct}

-- items with these names, numbered from 1, of which the first `primary` have to be covered and the others may be;
-- and options, numbered from 1, each a list of items
pub record ProblemValue : Type 0 where
  pub names : List (List ℕ)
  pub primary : ℕ
  pub options : List (List ℕ)

-- the problem of these names, so many of them primary, and these options
abbrev pub problem_with : List (List ℕ) → ℕ → List (List ℕ) → ProblemValue
problem_with names primary options = record { names = names; primary = primary; options = options }

-- the items of the option numbered k
abbrev pub option_at : ProblemValue → ℕ → List ℕ
option_at p k = slice_index_or p.options (k - 1) []

-- the name of the item numbered i
abbrev pub name_at : List (List ℕ) → ℕ → List ℕ
name_at names i = slice_index_or names (i - 1) []

-- the number of the item with a name
abbrev pub item_named : List (List ℕ) → List ℕ → Option ℕ
item_named names name = option_map (λ i. i + 1) (position (bytes_eq name) names)

-- a letter, a digit or `_`
abbrev pub is_name_byte : ℕ → Bool
is_name_byte b = (nat_le 48 b && nat_le b 57) || (nat_le 65 b && nat_le b 90) || (nat_le 97 b && nat_le b 122) || (b == 95)

-- whether these bytes are a name: one to eight letters, digits and `_`
abbrev pub is_name : List ℕ → Bool
is_name name = nat_lt 0 (length name) && nat_le (length name) most_name_bytes && list_all is_name_byte name

-- whether no name comes twice
abbrev pub are_new : List (List ℕ) → Bool
are_new [] = true
are_new (name ∷ names) = not (list_any (bytes_eq name) names) && are_new names

-- whether i numbers one of n items
abbrev pub is_item : ℕ → ℕ → Bool
is_item n i = nat_lt 0 i && nat_le i n

-- whether it is an option over n items: not empty, each item once
abbrev pub is_option : ℕ → List ℕ → Bool
is_option n option = nat_lt 0 (length option) && are_distinct option && list_all (is_item n) option

-- the entries of the problem's table: a header, the items, a node for each item of each option, and a spacer beside each option
abbrev pub size_of : ProblemValue → ℕ
size_of p = length p.names + sum_by length p.options + length p.options + 2

-- whether so many items, and so many options with so many items together, are within the limits
abbrev pub are_within : ℕ → ℕ → ℕ → Bool
are_within items options entries =
    nat_le items most_items && nat_le options most_options && nat_le (items + entries + options + 2) most_entries

-- whether it is within the limits
abbrev pub is_small : ProblemValue → Bool
is_small p = are_within (length p.names) (length p.options) (sum_by length p.options)

-- whether two problems are equal
abbrev pub is_same : ProblemValue → ProblemValue → Bool
is_same p q = (p.primary == q.primary) && pointwise bytes_eq p.names q.names && pointwise bytes_eq p.options q.options

-- what is a problem
pub record IsProblem (p : ProblemValue) : Type 0 where
  pub some : 0 < p.primary
  pub within : p.primary ≤ length p.names
  pub named : list_all is_name p.names ≡ true
  pub new : are_new p.names ≡ true
  pub options_are : list_all (is_option (length p.names)) p.options ≡ true
  pub small : is_small p ≡ true
