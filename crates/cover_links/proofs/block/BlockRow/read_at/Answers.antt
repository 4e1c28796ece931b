use Rattle.std.proofs.Common.{◌≡◌, ℕ, ◌<◌, length, ap, subst, sym, ◌∙◌, Some}
use Rattle.cover_links.specs.Slots.{values}
use Rattle.cover_links.specs.Entries.{entry_at}
use Rattle.cover_links.specs.Row.{RowValue}
use Rattle.cover_links.proofs.FullRows.{full_get}
use Rattle.cover_links.proofs.SlotRows.{same_place}
use Rattle.cover_links.proofs.block.BlockRow.read_at.Goals as goal

pub get-requires : goal.get-requires
get-requires c =
    let slots = c.self.inside.slots.slots in let inv = c.self.invariant in
    let same = ap (λ (r : RowValue). r.entries) c.self.view_is in
    let i = c.requires.within.0 in
    let lt : i < length (values slots) = subst (λ n. i < n) (ap length (sym same)) c.requires.within.2 in
    (c.requires.place ∙ sym (ap (λ (r : RowValue). r.place.at) c.self.view_is), (i, c.requires.within.1, (entry_at (values slots) i, full_get slots i inv.1 lt)))

pub returns : goal.returns
returns c i far =
    let slots = c.self.inside.slots.slots in let inv = c.self.invariant in
    let same = ap (λ (r : RowValue). r.entries) c.self.view_is in
    let here : i ≡ c.requires.within.0 = same_place i c.requires.within.0 (sym far ∙ c.requires.within.1) in
    let lt : i < length (values slots) = subst (λ (w : ℕ × ℕ). w.0 < w.1) (λ v. (sym here v, ap length (sym same) v)) c.requires.within.2 in
    let e : Some c.get.result.now ≡ Some (entry_at (values slots) i) = sym (c.get.ensures i far) ∙ full_get slots i inv.1 lt in
    let f : c.get.result.now ≡ entry_at (values slots) i = cc in
    f ∙ ap (λ l. entry_at l i) same
