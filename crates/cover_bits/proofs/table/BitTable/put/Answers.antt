use Rattle.std.proofs.Common.{◌+◌, ◌<◌, ◌∙◌, ap, sym, subst, set, arith, length, vec_capacity}
use Rattle.cover_problem.specs.Coverable.{IsUncovered}
use Rattle.cover_problem.proofs.CoveredLemmas.{covered_most, covered_room}
use Rattle.cover_bits.proofs.TableLemmas.{bits_at, any_default}
use Rattle.cover_bits.proofs.TurnLemmas.{put_fields}
use Rattle.cover_bits.proofs.table.BitTable.put.Goals as goal

pub index-requires : goal.index-requires
index-requires c =
    let h = bits_at c.self.view_is c.self.invariant in
    let r = covered_room c.args.self.now.problem c.args.self.now.covered c.args.item h.distinct (record { some = c.requires.some; within = c.requires.within; uncovered = c.requires.uncovered }) in
    let b = h.bases_long in let same = ap (λ s. length s.covered) c.self.view_is in
    let o = c.self.inside.covered.ok.0 in let q = c.self.inside.bases.ok.0 in let e = c.len-depth.ensures in
    omega arith

pub index_mut-requires : goal.index_mut-requires
index_mut-requires c =
    let h = bits_at c.self.view_is c.self.invariant in
    let r = covered_room c.args.self.now.problem c.args.self.now.covered c.args.item h.distinct (record { some = c.requires.some; within = c.requires.within; uncovered = c.requires.uncovered }) in
    let b = h.bases_long in let same = ap (λ s. length s.covered) c.self.view_is in
    let o = c.self.inside.covered.ok.0 in let q = c.self.inside.bases.ok.0 in let e = c.len-depth.ensures in
    omega arith

pub push_within-requires : goal.push_within-requires
push_within-requires c =
    let h = bits_at c.self.view_is c.self.invariant in
    let r = covered_room c.args.self.now.problem c.args.self.now.covered c.args.item h.distinct (record { some = c.requires.some; within = c.requires.within; uncovered = c.requires.uncovered }) in
    let f = h.fits in let same = ap (λ s. length s.covered) c.self.view_is in
    let o = c.self.inside.covered.ok.0 in
    omega arith

pub invariant_of-self : goal.invariant_of-self
invariant_of-self c =
    let h = c.self.invariant in
    let m = covered_most c.self.inside.problem.value c.self.inside.covered.items h.distinct in
    let b = h.bases_long in let o = c.self.inside.covered.ok.0 in let e = c.len-depth.ensures in
    let low : c.len-depth.result < length c.self.inside.bases.items = omega arith in
    let free = subst (λ s. IsUncovered s.problem s.covered c.args.item) (sym c.self.view_is) (record { some = c.requires.some; within = c.requires.within; uncovered = c.requires.uncovered }) in
    put_fields c.self.invariant c.args.item free c.len-depth.result (c.len-depth.ensures ∙ c.self.inside.covered.ok.0)
    (set c.self.inside.bases.items (c.len-depth.result + 1) c.index.result.now)
    (ap (λ v. set c.self.inside.bases.items (c.len-depth.result + 1) v) (c.index.ensures ∙ any_default c.self.inside.bases.items c.len-depth.result c.index.result.now 0 low))
    c.deref_mut.result.now c.deactivate.new.active c.deref_mut.ensures.value c.deactivate.ensures.long c.deactivate.ensures.removed
    c.self.inside.active.len c.self.inside.active.ok.0 c.push_within.new.items.items (vec_capacity c.push_within.new.items) c.push_within.ensures.items c.push_within.ensures.room
