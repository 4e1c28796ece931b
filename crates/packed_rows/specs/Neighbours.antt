-- Lists of numbers, each told after the one before it: most often one number tells by how much the last number rises.
--
-- Example: the lists 4 5, 4 7 and 4 are the numbers 4 4 5, 5 and 2 4. The first stands after no list, so twice its length and its numbers
-- are told; the second rises by 2, told as twice 2 and 1; the third has another length. proofs/NeighbourExamples.antt computes it.
use Rattle.std.specs.Prelude.{ℕ, ◌+◌, ◌-◌, ◌*◌, ◌==◌, nat_lt, Option, Some, None, List, [], ◌∷◌, ◌++◌, length, if◌then◌else◌}

-- a list with its last number raised by a step; one without numbers stays as it is
unfoldable pub raised : ℕ → List ℕ → List ℕ
raised step [] = []
raised step (n ∷ []) = (n + step) ∷ []
raised step (n ∷ m ∷ ns) = n ∷ raised step (m ∷ ns)

-- the step from one number up to another, if it is below 64
abbrev pub small_step : ℕ → ℕ → Option ℕ
small_step n m = if nat_lt m n then None else (if nat_lt (m - n) 64 then Some (m - n) else None)

-- the step from the last number of one list up to that of another, if it is below 64 and the lists have the same numbers before these
unfoldable pub list_step : List ℕ → List ℕ → Option ℕ
list_step (n ∷ []) (m ∷ []) = small_step n m
list_step (n ∷ a ∷ ns) (m ∷ b ∷ ms) = if n == m then list_step (a ∷ ns) (b ∷ ms) else None
list_step ns ms = None

-- what tells a list: twice such a step and 1, which is odd; where there is none, twice its length, which is even, and then its numbers
abbrev pub told_by : Option ℕ → List ℕ → List ℕ
told_by (Some step) list = (2 * step + 1) ∷ []
told_by None list = 2 * length list ∷ list

-- what tells a list after the one before it
abbrev pub told_after : List ℕ → List ℕ → List ℕ
told_after before list = told_by (list_step before list) list

-- what tells lists, the first of them after a list
unfoldable pub told_from : List ℕ → List (List ℕ) → List ℕ
told_from before [] = []
told_from before (list ∷ lists) = told_after before list ++ told_from list lists

-- what tells lists, the first of them after one without numbers
abbrev pub told_lists : List (List ℕ) → List ℕ
told_lists lists = told_from [] lists
