use Rattle.std.proofs.Common.{List, ℕ, ◌-◌, ◌<◌, drop, replicate, length, slice_index, ap, ◌∙◌, arith, refl}
use Rattle.std.proofs.Math.ListN.{length-replicate}
use Rattle.std.proofs.lemmas.List.{get_or_default}
use Rattle.poly_cells.proofs.SetLemmas.{in_at}
use Rattle.poly_place.proofs.FormTableLemmas.{noted_long, note_begin, note_more, note_end}
use Rattle.poly_place.proofs.forms.firsts.Goals as goal

pub loop-k-init : goal.loop-k-init
loop-k-init c = c.in_ok-table.ensures ∙ note_begin c.args.numbers.now (length c.args.numbers.now) (replicate c.args.size 0) refl

pub loop-k-preserved : goal.loop-k-preserved
loop-k-preserved c =
    let numbers = c.args.numbers.now in
    let place : ℕ = length numbers - 1 - c.loop-k.k in
    let lt : c.loop-k.k < length numbers = let t = c.loop-k-test.true in omega (arith, t) in
    let x : ℕ = slice_index numbers place in
    note_more numbers (replicate c.args.size 0) c.loop-k.k (length numbers) place x c.loop-k.table.items _ refl lt refl (get_or_default numbers place 0 x (omega (arith, lt))) c.loop-k.invariant refl

pub index_mut-requires : goal.index_mut-requires
index_mut-requires c =
    let below = c.requires.below _ (in_at c.args.numbers.now (length c.args.numbers.now - 1 - c.loop-k.k) 0 (let lt = c.loop-k-test.true in omega (arith, lt))) in
    let long = ap (λ (t : List ℕ). length t) c.loop-k.invariant ∙ noted_long (length c.args.numbers.now - c.loop-k.k) (drop (length c.args.numbers.now - c.loop-k.k) c.args.numbers.now) (replicate c.args.size 0) ∙ length-replicate c.args.size 0 in
    omega (arith, below, long)

pub index_mut-requires-2 : goal.index_mut-requires-2
index_mut-requires-2 c =
    let long = ap (λ (t : List ℕ). length t) c.loop-k.invariant ∙ noted_long (length c.args.numbers.now - c.loop-k.k) (drop (length c.args.numbers.now - c.loop-k.k) c.args.numbers.now) (replicate c.args.size 0) ∙ length-replicate c.args.size 0 in
    let some = c.requires.some in
    omega (arith, some, long)

pub returns : goal.returns
returns c =
    note_end c.args.numbers.now c.loop-k.k (length c.args.numbers.now) c.args.size _ c.loop-k.table.items _ (let h = c.loop-k-test.false in omega (arith, h)) refl c.requires.some c.requires.below c.loop-k.invariant refl
