-- What the links of a block stand for: a problem, and the items that are covered.
-- TAOCP volume 4B, section 7.2.2.1.
--
-- Example: in the block of the small problem with nothing covered the list of the item a leads down from its head, 1, to the nodes
-- 12 and 20, of the options 2 and 4, and back to 1 (computed in proofs/LinkExamples.antt).
use Rattle.std.specs.Prelude.{◌≡◌, ℕ, ◌<◌, ◌≤◌, List, [], ◌∷◌, ◌++◌, length, map, reverse}
use Rattle.cover_problem.specs.Problem.{ProblemValue, IsProblem}
use Rattle.cover_problem.specs.Covering.{active, list_of}
use Rattle.cover_problem.specs.Coverable.{IsUncovered}
use Rattle.cover_problem.specs.Table.{IsCoveredList}
use Rattle.cover_links.specs.declared.entry.TableEntry.{TableEntry}
use Rattle.cover_links.specs.Entries.{entry_at}
use Rattle.cover_links.specs.Hiding.{all_covered, item_uncovered}
use Rattle.cover_links.specs.Fresh.{fresh}
use Rattle.cover_links.specs.Layout.{node_index}

-- the links lead from a to each of these in turn, and from the last one to b
abbrev pub IsListWalk : (ℕ → ℕ) → ℕ → List ℕ → ℕ → Type 0
IsListWalk link a [] b = link a ≡ b
IsListWalk link a (x ∷ xs) b = (link a ≡ x) × IsListWalk link x xs b

-- the nodes of an item's list, from the first option's to the last one's
abbrev pub nodes_of : ProblemValue → List ℕ → ℕ → List ℕ
nodes_of p c j = map (node_index p j) (list_of p c j)

-- The links of the header walk the active items and come back, both ways. Those of each head, also of a covered item, walk the
-- nodes of its list and come back, both ways, and the head tells how many they are.
pub record StandsFor (p : ProblemValue) (c : List ℕ) (es : List TableEntry) : Type 0 where
  pub items : IsListWalk (λ x. (entry_at es x).right) 0 (active p c) 0
  pub items_back : IsListWalk (λ x. (entry_at es x).left) 0 (reverse (active p c)) 0
  pub nodes : (j : ℕ) → 0 < j → j ≤ length p.names → IsListWalk (λ x. (entry_at es x).down) j (nodes_of p c j) j
  pub nodes_back : (j : ℕ) → 0 < j → j ≤ length p.names → IsListWalk (λ x. (entry_at es x).up) j (reverse (nodes_of p c j)) j
  pub lengths : (j : ℕ) → 0 < j → j ≤ length p.names → (entry_at es j).top ≡ length (list_of p c j)

-- the block once the items of c were covered, one after the other
unfoldable pub block_of : ProblemValue → List ℕ → List TableEntry
block_of p c = all_covered (fresh p) c

-- the block of c stands for c
abbrev pub BlockStands : Type 0
BlockStands = (p : ProblemValue) (c : List ℕ) → IsProblem p → IsCoveredList p c → StandsFor p c (block_of p c)

-- uncovering the item that was covered last gives the block back that stood before
abbrev pub UncoverRestores : Type 0
UncoverRestores =
    (p : ProblemValue) (c : List ℕ) (i : ℕ) → IsProblem p → IsCoveredList p c → IsUncovered p c i
    → item_uncovered (block_of p (c ++ i ∷ [])) i ≡ block_of p c
