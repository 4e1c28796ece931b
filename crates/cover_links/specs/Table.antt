-- What the parts of a table of links are: the block of a problem and the covered items, and where each option begins.
use Rattle.std.specs.Prelude.{◌≡◌, ℕ, suc, ◌<◌, ◌≤◌, ◌^◌, ◌⊎◌, ◌==◌, nat_lt, ◌&&◌, Bool, true, false, cond, pos, ◌-ℤ◌, Option, Some, None, List, length, get_or}
use Rattle.cover_problem.specs.Problem.{ProblemValue, IsProblem}
use Rattle.cover_problem.specs.Table.{IsCoveredList}
use Rattle.cover_links.specs.declared.entry.TableEntry.{TableEntry}
use Rattle.cover_links.specs.declared.entry.Node.{Node}
use Rattle.cover_links.specs.Entries.{entry_at, next_bytes}
use Rattle.cover_links.specs.Layout.{start_of}
use Rattle.cover_links.specs.StandsFor.{block_of}

-- the parts of a table
pub record IsTable (p : ProblemValue) (c : List ℕ) (items : ℕ) (block : List TableEntry) (starts : List ℕ) (room : ℕ) : Type 0 where
  pub problem : IsProblem p
  pub covered : IsCoveredList p c
  pub items_are : items ≡ length p.names
  pub block_is : block ≡ block_of p c
  pub count : length starts ≡ suc (length p.options)
  pub each : (k : ℕ) → k ≤ length p.options → get_or starts k 0 ≡ start_of p k
  pub capacity : length p.names ≤ room

-- what a link leads to: nothing where it leads to 0
abbrev pub nonzero : ℕ → Option ℕ
nonzero n = cond (n == 0) None (Some n)

-- past the heads an entry that leads to no next node is a spacer
abbrev pub is_spacer : TableEntry → Bool
is_spacer e = next_bytes e == 0

-- an entry as the literature prints it
abbrev pub printed_node : ℕ → ℕ → TableEntry → Node
printed_node items x e = record {
  top_or_len = cond (nat_lt items x && is_spacer e) (pos 0 -ℤ pos e.top) (pos e.top);
  up = e.up;
  down = e.down;
}

-- a node of the option numbered k, which has its number at the spacer past it
pub record IsNodeOf (es : List TableEntry) (item node spacer k : ℕ) : Type 0 where
  pub apart : node ≡ item → ⊥
  pub past : node < spacer
  pub within : spacer < length es
  pub word : spacer < 2 ^ 32
  pub nodes : (x : ℕ) → node ≤ x → x < spacer → is_spacer (entry_at es x) ≡ false
  pub end : is_spacer (entry_at es spacer) ≡ true
  pub number : (entry_at es spacer).top ≡ k
  pub some : 0 < k

-- the item's head, where k is 0, or a node of the option numbered k
abbrev pub IsHeadOrNode : List TableEntry → ℕ → ℕ → ℕ → Type 0
IsHeadOrNode es item node k = ((node ≡ item) × (k ≡ 0)) ⊎ ((spacer : ℕ) × IsNodeOf es item node spacer k)
