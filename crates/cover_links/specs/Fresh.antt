-- The block of a problem with nothing covered: blank heads in the row of active items, and then each node appended to the list of
-- its item. That it stands for the problem is a law.
-- TAOCP volume 4B, section 7.2.2.1, table 1, and exercise 8.
use Rattle.std.specs.Prelude.{ℕ, zero, suc, ◌+◌, ◌-◌, ◌==◌, nat_lt, cond, List, [], ◌∷◌, length, set, replicate}
use Rattle.cover_problem.specs.Problem.{ProblemValue, option_at, size_of}
use Rattle.cover_links.specs.declared.entry.TableEntry.{TableEntry}
use Rattle.cover_links.specs.Entries.{blank, entry_at, low_half, high_half, changed, to_down}
use Rattle.cover_links.specs.Hiding.{node_unhidden}
use Rattle.cover_links.specs.Layout.{start_of, place_after}

-- the head of an item whose list is empty: a primary one has its neighbours in the row, another only itself
abbrev pub empty_head : ℕ → ℕ → TableEntry
empty_head primary i = record {
  top = 0;
  up = i;
  down = i;
  left = cond (nat_lt primary i) i (i - 1);
  right = cond (nat_lt primary i) i (cond (i == primary) 0 (i + 1));
}

-- the header, once the first n heads are written too
abbrev pub heads_written : List TableEntry → ℕ → ℕ → List TableEntry
heads_written es primary zero = set es 0 (record { top = 0; up = 0; down = 0; left = primary; right = 1 })
heads_written es primary (suc n) = set (heads_written es primary n) (suc n) (empty_head primary (suc n))

-- a node of the item i is written at x, past the last of i's list; the next one of its option stands at `next`
abbrev pub node_written : List TableEntry → ℕ → ℕ → ℕ → List TableEntry
node_written es x i next = set es x (record { top = i; up = (entry_at es i).up; down = i; left = low_half next; right = high_half next })

-- and comes into that list
unfoldable pub node_appended : List TableEntry → ℕ → ℕ → ℕ → List TableEntry
node_appended es x i next = node_unhidden (node_written es x i next) x

-- nodes of these items are appended, from x on, to the option from `start` up to the spacer at `end`
abbrev pub nodes_appended : List TableEntry → ℕ → ℕ → ℕ → List ℕ → List TableEntry
nodes_appended es x start end [] = es
nodes_appended es x start end (i ∷ items) = nodes_appended (node_appended es x i (place_after start end x)) (suc x) start end items

-- an option is appended from the entry `start` on: its nodes, and the spacer past them
unfoldable pub option_appended : List TableEntry → ℕ → List ℕ → ℕ → List TableEntry
option_appended es start option number =
    set (changed (to_down (start + length option - 1)) (nodes_appended es start start (start + length option) option) (start - 1))
    (start + length option)
    (record { top = number; up = start; down = 0; left = 0; right = 0 })

-- the block with the first k options
abbrev pub built : ProblemValue → ℕ → List TableEntry
built p zero = heads_written (replicate (size_of p) blank) p.primary (length p.names)
built p (suc k) = option_appended (built p k) (start_of p k) (option_at p (suc k)) (suc k)

-- the block with nothing covered
unfoldable pub fresh : ProblemValue → List TableEntry
fresh p = built p (length p.options)
