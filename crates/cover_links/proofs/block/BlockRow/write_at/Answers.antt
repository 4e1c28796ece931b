use Rattle.std.proofs.Common.{◌<◌, length, length-set, set, ap, subst, sym, ◌∙◌, Some}
use Rattle.cover_links.specs.Slots.{values, IsFull}
use Rattle.cover_links.specs.Row.{RowValue, place}
use Rattle.cover_links.proofs.FullRows.{full_length, full_set, set_full}
use Rattle.cover_links.proofs.block.BlockRow.write_at.Goals as goal

pub put-requires : goal.put-requires
put-requires c =
    let slots = c.self.inside.slots.slots in let inv = c.self.invariant in
    let same = ap (λ (r : RowValue). r.entries) c.self.view_is in
    let i = c.requires.within.0 in
    (c.requires.place ∙ sym (ap (λ (r : RowValue). r.place.at) c.self.view_is), (i, c.requires.within.1, subst (λ n. i < n) (ap length (sym same) ∙ full_length slots inv.1) c.requires.within.2))

pub invariant_of-self : goal.invariant_of-self
invariant_of-self c =
    let slots = c.self.inside.slots.slots in let inv = c.self.invariant in let i = c.requires.within.0 in
    let put = c.put.ensures.1 i c.requires.within.1 in
    (ap length put ∙ length-set slots i (Some c.args.entry) ∙ inv.0, subst IsFull (sym put) (set_full slots i c.args.entry inv.1))

pub returns-clause-place : goal.returns-clause-place
returns-clause-place c = ap (λ p. place p c.self.inside.len) c.put.ensures.0 ∙ ap (λ (r : RowValue). r.place) c.self.view_is

pub returns-clause-entries : goal.returns-clause-entries
returns-clause-entries c i far =
    let slots = c.self.inside.slots.slots in let inv = c.self.invariant in
    ap values (c.put.ensures.1 i far) ∙ full_set slots i c.args.entry inv.1 ∙ ap (λ l. set l i c.args.entry) (ap (λ (r : RowValue). r.entries) c.self.view_is)
