use Rattle.std.proofs.Common.{◌-◌, ◌++◌, drop, ap, ap₂, sym, ◌∙◌, arith, vec_capacity}
use Rattle.std.proofs.lemmas.List.{take-append-drop}
use Rattle.cover_bits.proofs.TurnLemmas.{covered_some, given_back_fields}
use Rattle.cover_bits.proofs.table.BitTableTable.uncover_last.Goals as goal

pub activate_each-requires-clause-some : goal.activate_each-requires-clause-some
activate_each-requires-clause-some c =
    rw (c.split_at.ensures.back, c.deref.ensures.value)
    (covered_some c.self.inside.problem.value c.self.inside.covered.items (c.len.result - c.args.count) c.self.invariant.distinct)

pub invariant_of-self : goal.invariant_of-self
invariant_of-self c =
    let f = c.truncate.ensures.capacity in
    given_back_fields c.self.invariant c.split_at.result.1.now c.deref_mut.result.now c.activate_each.new.active
    c.deref_mut.ensures.value c.activate_each.ensures.long c.activate_each.ensures.each
    c.self.inside.active.len c.self.inside.active.ok.0 c.truncate.new.self.items (vec_capacity c.truncate.new.self)
    (sym (take-append-drop (c.len.result - c.args.count) c.self.inside.covered.items)
    ∙ ap₂ (λ x y. x ++ y) (sym c.truncate.ensures.items) (sym (c.split_at.ensures.back ∙ ap (drop (c.len.result - c.args.count)) c.deref.ensures.value)))
    (omega arith)
