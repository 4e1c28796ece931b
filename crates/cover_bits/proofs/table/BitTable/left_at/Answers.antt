use Rattle.std.proofs.Common.{ap, arith, length}
use Rattle.cover_bits.proofs.TableLemmas.{bits_at, short_of, has_set, left_told}
use Rattle.cover_bits.proofs.table.BitTable.left_at.Goals as goal

pub index-requires : goal.index-requires
index-requires c =
    let h = bits_at c.self.view_is c.self.invariant in
    let s = short_of h in let b = h.bases_long in
    let o = c.self.inside.bases.ok.0 in let l = c.requires in
    omega arith

pub split_at-requires : goal.split_at-requires
split_at-requires c =
    let f = ap (λ s. length s.covered) c.self.view_is in let l = c.requires in
    rw c.deref.ensures.value (omega arith)

pub split_at-requires-2 : goal.split_at-requires-2
split_at-requires-2 c =
    let s = has_set c.self.view_is c.self.invariant c.args.depth c.index.result.now c.requires (λ u. c.index.ensures) in
    let b = s.below in let e = c.split_at.ensures.front_len in
    omega arith

pub set-requires-clause-depth : goal.set-requires-clause-depth
set-requires-clause-depth c = rw c.deref-3.ensures.value (has_set c.self.view_is c.self.invariant c.args.depth c.index.result.now c.requires (λ u. c.index.ensures)).counted

pub set-requires-clause-few : goal.set-requires-clause-few
set-requires-clause-few c = rw c.deref-3.ensures.value (c.self.invariant.few c.index.result.now)

pub set-requires-clause-within : goal.set-requires-clause-within
set-requires-clause-within c = rw c.deref-2.ensures.value (has_set c.self.view_is c.self.invariant c.args.depth c.index.result.now c.requires (λ u. c.index.ensures)).room

pub returns : goal.returns
returns c =
    left_told c.self.view_is c.self.invariant c.args.depth c.index.result.now c.requires c.index.ensures c.set.result.now c.split_at-2.result.1.now c.split_at.result.0.now c.deref.result.now
    (rw (c.deref-2.ensures.value, c.deref-3.ensures.value) at c.set.ensures) c.deref.ensures.value c.split_at.ensures.front c.split_at-2.ensures.back
