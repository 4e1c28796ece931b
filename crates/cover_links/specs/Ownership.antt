-- What the row of places owns: for each place an entry, or room for one.
use Rattle.std.specs.Prelude.{ℕ, ◌+◌, ◌*◌, ◌<◌, ◌^◌, List, [], ◌∷◌, length, Option, Some, None}
use Rattle.std.specs.Mem.{type_size}
use base.Fraction.{full_share}
use base.Fml.{Lft, Fml, ftrue, ffalse, fsep, flt, froom}
use mir.Syntax.{Ty, ty_array}
use mir.Raw.{raw}
use denote.Memory.{lone, part_at, shared_of}
use denote.Sharing.{nothing, said, beside}
use denote.RawPtr.{Ptr, block_ptr, null_ptr}
use Rattle.cover_links.specs.declared.entry.TableEntry.{TableEntry}
use Rattle.cover_links.specs.contracts.entry.TableEntry.{the_row}

-- an entry's machine type
abbrev pub entry_type : Ty
entry_type = lone the_row.mir

-- the bytes of an entry
abbrev pub entry_size : ℕ
entry_size = type_size the_row

-- so many entries take fewer than 2 ^ 63 bytes
abbrev pub FitsInBlock : ℕ → Type 0
FitsInBlock n = n * entry_size < 2 ^ 63

-- the place o bytes into the block b
abbrev pub slot_own : ℕ → ℕ → Option TableEntry → Fml
slot_own b o (Some e) = part_at the_row full_share e b o
slot_own b o None = froom (raw entry_type) b o

-- places side by side, the first of them o bytes into the block b
abbrev pub slots_own : ℕ → ℕ → List (Option TableEntry) → Fml
slots_own b o [] = ftrue
slots_own b o (c ∷ cs) = fsep (slot_own b o c) (slots_own b (o + entry_size) cs)

-- what a `&` to a place sees
abbrev pub slot_lent : ℕ → ℕ → Option TableEntry → Lft → Fml
slot_lent b o (Some e) = shared_of the_row e b o
slot_lent b o None = nothing

-- what a `&` to places side by side sees
abbrev pub slots_lent : ℕ → ℕ → List (Option TableEntry) → Lft → Fml
slots_lent b o [] = nothing
slots_lent b o (c ∷ cs) = beside (slot_lent b o c) (slots_lent b (o + entry_size) cs)

-- the places fit in a block
abbrev pub fit : List (Option TableEntry) → Fml
fit cs = flt (length cs * entry_size) (2 ^ 63)

-- the row that begins at a pointer
abbrev pub row_own : Ptr → List (Option TableEntry) → Fml
row_own (block_ptr b o) cs = fsep (fit cs) (slots_own b o cs)
row_own null_ptr cs = ffalse

-- what a `&` to that row sees
abbrev pub row_lent : Ptr → List (Option TableEntry) → Lft → Fml
row_lent (block_ptr b o) cs = beside (said (fit cs)) (slots_lent b o cs)
row_lent null_ptr cs = said ffalse

-- the allocator's token for a block of so many entries
abbrev pub allocation_owns : (Ty → Ptr → Fml) → Ptr → ℕ → Fml
allocation_owns token p n = token (raw (ty_array entry_type n)) p
