use Rattle.std.proofs.Common.{◌+◌, ◌∙◌, arith, le_refl, length}
use Rattle.cover_problem.proofs.BoundLemmas.{few}
use Rattle.cover_problem.proofs.CoveredLemmas.{covered_most}
use Rattle.std.proofs.lemmas.Nat.{mul-le}
use Rattle.cover_bits.proofs.TableLemmas.{few_words, have_columns}
use Rattle.cover_bits.proofs.TurnLemmas.{settle_base, settle_placed, settled_fields}
use Rattle.cover_bits.proofs.table.BitTable.write_last.Goals as goal

pub index-requires : goal.index-requires
index-requires c =
    let h = c.self.invariant in
    let m = covered_most c.self.inside.problem.value c.self.inside.covered.items h.distinct in
    let b = h.bases_long in
    let o = c.self.inside.covered.ok.0 in let q = c.self.inside.bases.ok.0 in let e = c.len-depth.ensures in
    omega arith

pub write_sets-requires-clause-base : goal.write_sets-requires-clause-base
write_sets-requires-clause-base c =
    rw c.deref-2.ensures.value (settle_base c.self.invariant c.len-depth.result c.index.result.now (c.len-depth.ensures ∙ c.self.inside.covered.ok.0) c.index.ensures).1

pub write_sets-requires-clause-columns : goal.write_sets-requires-clause-columns
write_sets-requires-clause-columns c =
    rw (c.deref.ensures.value, c.deref-2.ensures.value) (have_columns c.self.invariant c.self.inside.covered.items c.self.invariant.distinct.items)

pub write_sets-requires-clause-depth : goal.write_sets-requires-clause-depth
write_sets-requires-clause-depth c =
    let h = c.self.invariant in
    let m = covered_most c.self.inside.problem.value c.self.inside.covered.items h.distinct in
    let l = h.counts_long in
    rw (c.deref_mut-2.ensures.value, c.deref-2.ensures.value) (omega arith)

pub write_sets-requires-clause-few : goal.write_sets-requires-clause-few
write_sets-requires-clause-few c = rw c.deref_mut-2.ensures.value c.self.invariant.few

pub write_sets-requires-clause-within : goal.write_sets-requires-clause-within
write_sets-requires-clause-within c =
    let h = c.self.invariant in
    let m = covered_most c.self.inside.problem.value c.self.inside.covered.items h.distinct in
    let r = mul-le (length c.self.inside.covered.items + 1) c.self.inside.words (length c.self.inside.problem.value.names + 1) c.self.inside.words (omega arith) (le_refl c.self.inside.words) in
    let l = h.parts_long in
    rw (c.deref_mut.ensures.value, c.deref-2.ensures.value) (omega arith)

pub write_sets-requires-clause-small : goal.write_sets-requires-clause-small
write_sets-requires-clause-small c = let w = (few_words c.self.invariant).1 in omega arith

pub write_sets-requires-clause-placed : goal.write_sets-requires-clause-placed
write_sets-requires-clause-placed c =
    rw (c.deref_mut.ensures.value, c.deref_mut-2.ensures.value)
    (settle_placed c.self.invariant c.index.result.now (settle_base c.self.invariant c.len-depth.result c.index.result.now (c.len-depth.ensures ∙ c.self.inside.covered.ok.0) c.index.ensures).0)

pub overflow_cast-depth : goal.overflow_cast-depth
overflow_cast-depth c =
    let h = c.self.invariant in
    let m = covered_most c.self.inside.problem.value c.self.inside.covered.items h.distinct in
    let f = (few c.self.inside.problem.value h.sound).0 in
    let o = c.self.inside.covered.ok.0 in let e = c.len-depth.ensures in
    record { fits = omega arith }

pub index_mut-requires : goal.index_mut-requires
index_mut-requires c =
    let h = c.self.invariant in
    let m = covered_most c.self.inside.problem.value c.self.inside.covered.items h.distinct in
    let b = h.bases_long in
    let o = c.self.inside.covered.ok.0 in let q = c.self.inside.bases.ok.0 in let e = c.len-depth.ensures in
    omega arith

pub invariant_of-self : goal.invariant_of-self
invariant_of-self c =
    let b = settle_base c.self.invariant c.len-depth.result c.index.result.now (c.len-depth.ensures ∙ c.self.inside.covered.ok.0) c.index.ensures in
    settled_fields c.self.invariant c.len-depth.result c.index.result.now (c.len-depth.ensures ∙ c.self.inside.covered.ok.0) b.0
    c.deref_mut.result.now c.write_sets.new.parts c.deref_mut-2.result.now c.write_sets.new.counts c.deref.result.now c.deref-2.result.now
    c.deref_mut.ensures.value c.deref_mut-2.ensures.value c.deref.ensures.value c.deref-2.ensures.value c.write_sets.ensures
    c.self.inside.parts.len c.self.inside.counts.len c.self.inside.parts.ok.0 c.self.inside.counts.ok.0
