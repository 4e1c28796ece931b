-- The entries of a block with the place where they lie.
use Rattle.std.specs.Prelude.{ℕ, List}
use denote.RawPtr.{Ptr}
use Rattle.cover_links.specs.declared.entry.TableEntry.{TableEntry}

-- where a row begins, and how many entries it has room for
pub record Place : Type 0 where
  pub at : Ptr
  pub len : ℕ

-- the place that begins there and has this room
abbrev pub place : Ptr → ℕ → Place
place at len = record { at = at; len = len }

-- a row: where it lies, and its entries
pub record RowValue : Type 0 where
  pub place : Place
  pub entries : List TableEntry
