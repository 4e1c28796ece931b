-- Where the entries of a problem stand in the block: the header at 0, the heads of the items from 1 on, then a spacer, and each
-- option's nodes, in the order of its items, with a spacer after them.
-- TAOCP volume 4B, section 7.2.2.1, table 1.
--
-- Example: in the small problem the nodes of the option 2, a d g, stand at 12 13 14, and the spacer after them at 15
-- (computed in proofs/LinkExamples.antt).
use Rattle.std.specs.Prelude.{ℕ, zero, suc, ◌+◌, ◌==◌, ◌≤◌, ◌≡◌, List, [], ◌∷◌, length, slice_index, cond}
use Rattle.std.specs.List.{before_first}
use Rattle.cover_problem.specs.Problem.{ProblemValue, option_at}

-- where the options after the first k of them begin, if the first begins at a
abbrev pub start_from : ℕ → List (List ℕ) → ℕ → ℕ
start_from a options zero = a
start_from a [] (suc k) = a
start_from a (o ∷ options) (suc k) = start_from (suc (a + length o)) options k

-- where the options after the first k of them begin; after the last one, the number of entries
unfoldable pub start_of : ProblemValue → ℕ → ℕ
start_of p k = start_from (suc (suc (length p.names))) p.options k

-- each option begins where these say, and the last of them is the number of entries
abbrev pub AreStarts : ProblemValue → List ℕ → Type 0
AreStarts p starts = (k : ℕ) → k ≤ length p.options → slice_index starts k ≡ start_of p k

-- where an item stands in a list
abbrev pub index_of : ℕ → List ℕ → ℕ
index_of j option = length (before_first (λ x. x == j) option)

-- the entry of the item j in the option k; for 0 in place of an option, its head
abbrev pub node_index : ProblemValue → ℕ → ℕ → ℕ
node_index p j zero = j
node_index p j (suc k) = start_of p k + index_of j (option_at p (suc k))

-- the spacer after the option numbered k
abbrev pub spacer_of : ProblemValue → ℕ → ℕ
spacer_of p zero = suc (length p.names)
spacer_of p (suc k) = start_of p k + length (option_at p (suc k))

-- the place after x in an option that stands from `start` up to the spacer at `end`: after the last comes the first
abbrev pub place_after : ℕ → ℕ → ℕ → ℕ
place_after start end x = cond (x + 1 == end) start (x + 1)
