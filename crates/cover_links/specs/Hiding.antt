-- Hiding the other nodes of a node's option, covering an item, and the way back, as functions on the list of entries.
-- TAOCP volume 4B, section 7.2.2.1, (12) to (15). There the way round an option goes over its spacer, and back the other way. Here each
-- node leads to the next one, as a row does in "Dancing links" (Knuth, 2000).
use Rattle.std.specs.Prelude.{ℕ, zero, suc, ◌==◌, cond, List, [], ◌∷◌, length}
use Rattle.cover_links.specs.declared.entry.TableEntry.{TableEntry}
use Rattle.cover_links.specs.Entries.{entry_at, next_node, changed, one_less, one_more, unlinked, relinked, item_unlinked, item_relinked}

-- a node leaves its list, which is one shorter
unfoldable pub node_hidden : List TableEntry → ℕ → List TableEntry
node_hidden es q = changed one_less (unlinked es q) (entry_at es q).top

-- a node comes back into its list
unfoldable pub node_unhidden : List TableEntry → ℕ → List TableEntry
node_unhidden es q = relinked (changed one_more es (entry_at es q).top) q

-- the nodes of a list are hidden, one after the other
abbrev pub nodes_hidden : List TableEntry → List ℕ → List TableEntry
nodes_hidden es [] = es
nodes_hidden es (q ∷ qs) = nodes_hidden (node_hidden es q) qs

-- the nodes of a list come back, one after the other
abbrev pub nodes_unhidden : List TableEntry → List ℕ → List TableEntry
nodes_unhidden es [] = es
nodes_unhidden es (q ∷ qs) = nodes_unhidden (node_unhidden es q) qs

-- where the link leads from q on until it comes to p, n times at most
abbrev pub until : (ℕ → ℕ) → ℕ → ℕ → ℕ → List ℕ
until link p q zero = []
until link p q (suc n) = cond (q == p) [] (q ∷ until link p (link q) n)

-- the other nodes of p's option, from the one after p on, round it
abbrev pub other_nodes : List TableEntry → ℕ → List ℕ
other_nodes es p = until (next_node es) p (next_node es p) (length es)

-- the other nodes of p's option are hidden
unfoldable pub hidden : List TableEntry → ℕ → List TableEntry
hidden es p = nodes_hidden es (other_nodes es p)

-- they come back, in the same order: each stands in a list of its own, so that the order is free
unfoldable pub unhidden : List TableEntry → ℕ → List TableEntry
unhidden es p = nodes_unhidden es (other_nodes es p)

-- the options of n nodes are hidden, from p down
abbrev pub list_hidden : List TableEntry → ℕ → ℕ → List TableEntry
list_hidden es p zero = es
list_hidden es p (suc n) = list_hidden (hidden es p) (entry_at (hidden es p) p).down n

-- the options of n nodes come back, from p up
abbrev pub list_unhidden : List TableEntry → ℕ → ℕ → List TableEntry
list_unhidden es p zero = es
list_unhidden es p (suc n) = list_unhidden (unhidden es p) (entry_at (unhidden es p) p).up n

-- the options of an item's list are hidden
unfoldable pub options_hidden : List TableEntry → ℕ → List TableEntry
options_hidden es i = list_hidden es (entry_at es i).down (entry_at es i).top

-- an item is covered: the options of its list are hidden, and it leaves the row of active items
unfoldable pub item_covered : List TableEntry → ℕ → List TableEntry
item_covered es i = item_unlinked (options_hidden es i) i

-- an item is uncovered: it comes back into the row of active items, and then the options of its list, from the last one up
unfoldable pub item_uncovered : List TableEntry → ℕ → List TableEntry
item_uncovered es i = list_unhidden (item_relinked es i) (entry_at (item_relinked es i) i).up (entry_at (item_relinked es i) i).top

-- the items of a list are covered, one after the other
abbrev pub all_covered : List TableEntry → List ℕ → List TableEntry
all_covered es [] = es
all_covered es (i ∷ c) = all_covered (item_covered es i) c
