-- The row and the right to free it may go to another thread, and be seen from there.
use Rattle.std.specs.Prelude.{ℕ, ◌+◌, List, [], ◌∷◌, Option, Some, None}
use base.Fraction.{full_share}
use base.Shift.{Keyless}
use denote.RattleType.{RattleType}
use denote.RawPtr.{Ptr, block_ptr, null_ptr}
use denote.Struct.Struct.{exits_of}
use denote.Struct.Owning.{shape, fields, to}
use denote.Param.Send.{IsSend, IsSync, Common, AllSend, part_keyless, owning_send, struct_send, struct_sync, sendable, plain_send, plain_sync, recorded_send, recorded_sync}
use Rattle.core.specs.declared.alloc.Allocator.{Ghosts}
use Rattle.std_alloc.proofs.SendSync.{FreesAnywhere, quiet}
use Rattle.cover_links.specs.declared.entry.TableEntry.{TableEntry}
use denote.Struct.Declared as Declared
use Rattle.cover_links.specs.contracts.entry.TableEntry as entry
use Rattle.cover_links.specs.contracts.entry.Offset as offset
use Rattle.cover_links.specs.contracts.entry.TableEntry.{the_row}
use Rattle.cover_links.specs.Ownership.{entry_size, slots_own, slots_lent, row_own, row_lent}
use Rattle.cover_links.specs.contracts.raw.Slots as slots
use Rattle.cover_links.specs.contracts.raw.Allocation as allocation

offset_send : IsSend offset.the_row
offset_send = search sendable

offset_sync : IsSync offset.the_row
offset_sync = search sendable

entry_send : IsSend the_row
entry_send =
    recorded_send (entry.the_field).row _ _ (entry.the_type).to_one (struct_send (Declared.shape entry.the_type) (offset_send, (offset_send, (offset_send, (plain_send _ _ _ _ _, (plain_send _ _ _ _ _, tt))))))

entry_sync : IsSync the_row
entry_sync =
    recorded_sync (entry.the_field).row _ _ (entry.the_type).to_one (struct_sync (Declared.shape entry.the_type) (offset_sync, (offset_sync, (offset_sync, (plain_sync _ _ _ _ _, (plain_sync _ _ _ _ _, tt))))))

places_cross : (b o : ℕ) (cs : List (Option TableEntry)) → Keyless (slots_own b o cs)
places_cross b o [] = tt
places_cross b o (Some e ∷ cs) = (part_keyless the_row entry_send full_share e b o, places_cross b (o + entry_size) cs)
places_cross b o (None ∷ cs) = (tt, places_cross b (o + entry_size) cs)

places_seen : (b o : ℕ) (cs : List (Option TableEntry)) → Common (slots_lent b o cs)
places_seen b o [] κ = tt
places_seen b o (Some e ∷ cs) κ = ((entry_sync).shared e b o κ, places_seen b (o + entry_size) cs κ)
places_seen b o (None ∷ cs) κ = (tt, places_seen b (o + entry_size) cs κ)

row_crosses : (p : Ptr) (cs : List (Option TableEntry)) → Keyless (row_own p cs)
row_crosses (block_ptr b o) cs = (tt, places_cross b o cs)
row_crosses null_ptr cs = tt

row_seen : (p : Ptr) (cs : List (Option TableEntry)) → Common (row_lent p cs)
row_seen (block_ptr b o) cs κ = (tt, places_seen b o cs κ)
row_seen null_ptr cs κ = tt

pub slots_send : IsSend slots.the_row
slots_send =
    let all : AllSend (fields slots.the_type) = (search sendable, tt) in
    owning_send slots.the_type all (λ d. row_crosses d.at d.slots) (λ k. quiet (to slots.the_type) (exits_of k (fields slots.the_type)) ((struct_send (shape slots.the_type) all).leaving k))

pub slots_sync : IsSync slots.the_row
slots_sync = record { shared = λ d b o κ. ((struct_sync (shape slots.the_type) (search sendable, tt)).shared (to slots.the_type d) b o κ, row_seen d.at d.slots κ) }

module _ (A : RattleType) (g : Ghosts A.Denot) where
  pub allocation_send : FreesAnywhere A.Denot g → IsSend (allocation.the_row A g)
  allocation_send f =
      let O = allocation.the_type A g in let all : AllSend (fields O) = (search sendable, tt) in
      owning_send O all (λ d. f.frees d.alloc _ d.at) (λ k. quiet (to O) (exits_of k (fields O)) ((struct_send (shape O) all).leaving k))

  pub allocation_sync : IsSync (allocation.the_row A g)
  allocation_sync = let O = allocation.the_type A g in record { shared = λ d b o κ. ((struct_sync (shape O) (search sendable, tt)).shared (to O d) b o κ, tt) }
