-- A `&` to the row is made of a borrow of it.
use denote.RawPtr.{RawPtr}
use denote.Param.Shared.{copy_shared}
use denote.Struct.Laws.{field_copy}
use denote.Struct.Lending.{of_Lends}
use Rattle.core.specs.contracts.marker.PhantomData as marker
use Rattle.cover_links.proofs.entry.TableEntry.TheLaws.{the_within}
use Rattle.cover_links.specs.contracts.raw.Slots as row
use Rattle.cover_links.proofs.raw.Slots.TheLaw.Statement.{statement}
use Rattle.cover_links.proofs.LentRows.{slots_lent_laws, lends_slots}

pub shares : statement
shares =
    of_Lends row.struct (row.the_codes (marker.the_row RawPtr).coded) row.the_heap row.the_lent (λ d p. slots_lent_laws d.at d.slots)
    (copy_shared (marker.the_field RawPtr) (field_copy (marker.the_type RawPtr) tt), tt)
    (λ M 𝓤 𝓛 d p. lends_slots 𝓛 (row.the_row).lives (the_within (row.the_row).lives) d.at d.slots)
