-- A `&` to the row is made of a borrow of it: one `&` for each place that holds an entry.
use Prim.Native.Nat.{ℕ, ◌+◌}
use Rattle.std.specs.Prelude.{List, [], ◌∷◌, Option, Some, None}
use seplogic.Ra.Ura.{Ura}
use base.Fml.{Lft, Incl, ftrue, ffalse}
use types.Logic.{Logic}
use denote.RawPtr.{Ptr, block_ptr, null_ptr}
use denote.Sharing.{ShrLaws, said}
use denote.SharingLaws.{beside_shr_laws, nothing_shr_laws, said_shr_laws}
use denote.Shares.{Shares-less}
use denote.Struct.Lending.{Lends, Lends-both, Lends-nothing, Lends-said, Lends-false}
use Rattle.cover_links.specs.declared.entry.TableEntry.{TableEntry}
use Rattle.cover_links.specs.contracts.entry.TableEntry.{the_row}
use Rattle.cover_links.proofs.entry.TableEntry.TheLaws.{the_row_laws}
use Rattle.cover_links.specs.Ownership.{entry_size, slot_own, slots_own, slot_lent, slots_lent, fit, row_own, row_lent}

lent_at : (b o : ℕ) (c : Option TableEntry) → ShrLaws (slot_lent b o c)
lent_at b o (Some e) = (the_row_laws).shr_laws e b o
lent_at b o None = nothing_shr_laws

lent_from : (b o : ℕ) (cs : List (Option TableEntry)) → ShrLaws (slots_lent b o cs)
lent_from b o [] = nothing_shr_laws
lent_from b o (c ∷ cs) = beside_shr_laws _ _ (lent_at b o c) (lent_from b (o + entry_size) cs)

pub slots_lent_laws : (p : Ptr) (cs : List (Option TableEntry)) → ShrLaws (row_lent p cs)
slots_lent_laws (block_ptr b o) cs = beside_shr_laws _ _ (said_shr_laws (fit cs) tt) (lent_from b o cs)
slots_lent_laws null_ptr cs = said_shr_laws ffalse tt

module _ {M : Type 1} {𝓤 : Ura M} (𝓛 : Logic 𝓤) (l : Lft) (inc : Incl l (the_row).lives) where
  lends_at : (b o : ℕ) (c : Option TableEntry) → Lends 𝓛 (slot_own b o c) (slot_lent b o c) l
  lends_at b o (Some e) = λ κ ts. Shares-less 𝓛 the_row (the_row).lives l inc ((the_row_laws).shares 𝓛) e κ ts b o
  lends_at b o None = Lends-nothing 𝓛 (slot_own b o None) l

  lends_from : (b o : ℕ) (cs : List (Option TableEntry)) → Lends 𝓛 (slots_own b o cs) (slots_lent b o cs) l
  lends_from b o [] = Lends-nothing 𝓛 ftrue l
  lends_from b o (c ∷ cs) =
      Lends-both 𝓛 (slot_own b o c) (slots_own b (o + entry_size) cs) (slot_lent b o c) (slots_lent b (o + entry_size) cs) l
      (lends_at b o c) (lends_from b (o + entry_size) cs)

  pub lends_slots : (p : Ptr) (cs : List (Option TableEntry)) → Lends 𝓛 (row_own p cs) (row_lent p cs) l
  lends_slots (block_ptr b o) cs =
      Lends-both 𝓛 (fit cs) (slots_own b o cs) (said (fit cs)) (slots_lent b o cs) l (Lends-said 𝓛 (fit cs) tt l) (lends_from b o cs)
  lends_slots null_ptr cs = Lends-false 𝓛 (said ffalse) l
