-- The entries of the block, and an entry that leaves its list and comes back.
-- TAOCP volume 4B, section 7.2.2.1, (1) and (2).
use Rattle.std.specs.Prelude.{◌≡◌, ℕ, ◌+◌, ◌-◌, ◌*◌, ◌/◌, ◌%◌, ◌<◌, List, length, get_or, set}
use Rattle.cover_links.specs.declared.entry.TableEntry.{TableEntry}

-- an entry that names nothing
abbrev pub blank : TableEntry
blank = record { top = 0; up = 0; down = 0; left = 0; right = 0 }

-- the entry at x
abbrev pub entry_at : List TableEntry → ℕ → TableEntry
entry_at es x = get_or es x blank

-- the two halves of the bytes that n entries take
abbrev pub low_half : ℕ → ℕ
low_half n = n * 16 % 65536

abbrev pub high_half : ℕ → ℕ
high_half n = n * 16 / 65536

-- the bytes before the next node of a node's option: `left` and `right` are the two halves
abbrev pub next_bytes : TableEntry → ℕ
next_bytes e = e.left + e.right * 65536

-- so many entries stand before that node
abbrev pub next_of : TableEntry → ℕ
next_of e = next_bytes e / 16

-- the bytes are those of a whole number of entries
abbrev pub HasNext : TableEntry → Type 0
HasNext e = next_of e * 16 ≡ next_bytes e

-- the node after the one at x in its option
abbrev pub next_node : List TableEntry → ℕ → ℕ
next_node es x = next_of (entry_at es x)

-- the entry at x is changed by f, and no other
unfoldable pub changed : (TableEntry → TableEntry) → List TableEntry → ℕ → List TableEntry
changed f es x = set es x (f (entry_at es x))

-- the entry names y below it
abbrev pub to_down : ℕ → TableEntry → TableEntry
to_down y e = record e { down = y }

-- the entry names y above it
abbrev pub to_up : ℕ → TableEntry → TableEntry
to_up y e = record e { up = y }

-- the entry names y after it
abbrev pub to_right : ℕ → TableEntry → TableEntry
to_right y e = record e { right = y }

-- the entry names y before it
abbrev pub to_left : ℕ → TableEntry → TableEntry
to_left y e = record e { left = y }

-- a head whose list is one shorter
abbrev pub one_less : TableEntry → TableEntry
one_less e = record e { top = e.top - 1 }

-- a head whose list is one longer
abbrev pub one_more : TableEntry → TableEntry
one_more e = record e { top = e.top + 1 }

-- x leaves its vertical list: its neighbours name each other
unfoldable pub unlinked : List TableEntry → ℕ → List TableEntry
unlinked es x = changed (to_up (entry_at es x).up) (changed (to_down (entry_at es x).down) es (entry_at es x).up) (entry_at es x).down

-- x comes back: its neighbours name it
unfoldable pub relinked : List TableEntry → ℕ → List TableEntry
relinked es x = changed (to_up x) (changed (to_down x) es (entry_at es x).up) (entry_at es x).down

-- the same in the row of active items
unfoldable pub item_unlinked : List TableEntry → ℕ → List TableEntry
item_unlinked es x =
    changed (to_left (entry_at es x).left) (changed (to_right (entry_at es x).right) es (entry_at es x).left) (entry_at es x).right

-- the item comes back into that row
unfoldable pub item_relinked : List TableEntry → ℕ → List TableEntry
item_relinked es x = changed (to_left x) (changed (to_right x) es (entry_at es x).left) (entry_at es x).right

-- both neighbours of x in its vertical list lie in the block and name it
pub record IsLinked (es : List TableEntry) (x : ℕ) : Type 0 where
  pub above : (entry_at es x).up < length es
  pub below : (entry_at es x).down < length es
  pub from_above : (entry_at es (entry_at es x).up).down ≡ x
  pub from_below : (entry_at es (entry_at es x).down).up ≡ x

-- both neighbours of x in the row of active items lie in the block and name it
pub record IsItemLinked (es : List TableEntry) (x : ℕ) : Type 0 where
  pub before : (entry_at es x).left < length es
  pub after : (entry_at es x).right < length es
  pub from_before : (entry_at es (entry_at es x).left).right ≡ x
  pub from_after : (entry_at es (entry_at es x).right).left ≡ x

-- an entry that left its list and comes back at once finds the block as it was
abbrev pub RelinkRestores : Type 0
RelinkRestores = (es : List TableEntry) (x : ℕ) → IsLinked es x → relinked (unlinked es x) x ≡ es

-- and so does an item that left the row of active items
abbrev pub ItemRelinkRestores : Type 0
ItemRelinkRestores = (es : List TableEntry) (x : ℕ) → IsItemLinked es x → item_relinked (item_unlinked es x) x ≡ es
