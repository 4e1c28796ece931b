-- Which items are active, which options an item has left, and which item is chosen, once the items of a list are covered.
-- TAOCP volume 4B, section 7.2.2.1, Algorithm X and exercise 9. Here are no links and no undo: each word filters a whole list.
--
-- Example: in the small problem with a, d and g covered (1 4 7), the items b c e f (2 3 5 6) are active; of c the options
-- 1 and 3 are left, of b the option 3, of e the option 1, of f the option 3; the item chosen is b.
-- proofs/CoverExamples.antt computes it.
use Rattle.std.specs.Prelude.{ℕ, ◌-◌, ◌==◌, ◌≡◌, nat_le, Bool, true, Option, not, ◌&&◌, List, length, filter, find, unwrap_or, []}
use Rattle.std.specs.List.{list_any, list_all, slice_index_or, before_first}
use Rattle.shared_words.specs.Lists.{has, numbers, above, below, last_of}
use Rattle.cover_problem.specs.Problem.{ProblemValue}

-- of the items 1 to n those that are not in c
abbrev pub uncovered : ℕ → List ℕ → List ℕ
uncovered n c = filter (λ i. not (has c i)) (numbers n 1)

-- the active items: the primary ones that are not covered
unfoldable pub active : ProblemValue → List ℕ → List ℕ
active p c = uncovered p.primary c

-- whether the option has the item j and no item of c
abbrev pub is_remaining : List ℕ → ℕ → List ℕ → Bool
is_remaining c j option = has option j && not (list_any (has c) option)

-- of these options, numbered from 1, those left for an item
abbrev pub remaining_among : List (List ℕ) → List ℕ → ℕ → List ℕ
remaining_among options c j = filter (λ k. is_remaining c j (slice_index_or options (k - 1) [])) (numbers (length options) 1)

-- the options left for an item, rising
unfoldable pub remaining : ProblemValue → List ℕ → ℕ → List ℕ
remaining p c j = remaining_among p.options c j

-- the options in an item's list: the list of a covered item stays as it was when the item was covered
unfoldable pub list_of : ProblemValue → List ℕ → ℕ → List ℕ
list_of p c j = remaining p (before_first (λ x. x == j) c) j

-- the option k is in the item's list
abbrev pub IsInList : ProblemValue → List ℕ → ℕ → ℕ → Type 0
IsInList p c j k = has (list_of p c j) k ≡ true

-- the first option of the item's list
abbrev pub first_left : ProblemValue → List ℕ → ℕ → Option ℕ
first_left p c j = above 0 (list_of p c j)

-- the last option of the item's list
abbrev pub last_left : ProblemValue → List ℕ → ℕ → Option ℕ
last_left p c j = last_of (list_of p c j)

-- the option after k in the item's list
abbrev pub next_left : ProblemValue → List ℕ → ℕ → ℕ → Option ℕ
next_left p c j k = above k (list_of p c j)

-- the option before k in the item's list
abbrev pub prev_left : ProblemValue → List ℕ → ℕ → ℕ → Option ℕ
prev_left p c j k = below k (list_of p c j)

-- whether no active item has fewer options left
abbrev pub is_shortest : ProblemValue → List ℕ → ℕ → Bool
is_shortest p c j = list_all (λ i. nat_le (length (remaining p c j)) (length (remaining p c i))) (active p c)

-- the item chosen: the first of the active items with the fewest options left
unfoldable pub choice : ProblemValue → List ℕ → ℕ
choice p c = unwrap_or (find (is_shortest p c) (active p c)) 0
