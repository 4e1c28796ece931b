use Rattle.std.proofs.Common.{ℕ, ◌+◌, ◌<◌, List, length, slice_index, refl, sym, ap, subst, ◌∙◌, arith}
use Rattle.poly_cells.proofs.SetLemmas.{in_at}
use Rattle.poly_place.specs.Forms.{form_by}
use Rattle.poly_distinct.proofs.NotedLemmas.{forms_long, forms_past, forms_within, noted_long, noted_next, noted_tells}
use Rattle.poly_distinct.proofs.LowerLemmas.{lowering_more, lowering_stops, lowering_ends}
use Rattle.poly_distinct.proofs.form.lower.Goals as goal

pub bounds-numbers-carrier : goal.bounds-numbers-carrier
bounds-numbers-carrier c = c.requires.carrier.below _ (in_at c.args.carrier.now c.loop-k.k 0 c.loop-k-test.true)

pub offset_bounds-numbers-carrier : goal.offset_bounds-numbers-carrier
offset_bounds-numbers-carrier c =
    let below = c.requires.carrier.below _ (in_at c.args.carrier.now c.loop-k.k 0 c.loop-k-test.true) in
    grind (arith, below, c.type_inv.numbers)

pub first_noted-first-requires : goal.first_noted-first-requires
first_noted-first-requires c =
    let place = c.requires.carrier.below _ (in_at c.args.carrier.now c.loop-k.k 0 c.loop-k-test.true) in
    let below = c.requires.below _ (in_at c.args.numbers.now (slice_index c.args.carrier.now c.loop-k.k) 0 place) in
    subst (λ (n : ℕ). slice_index c.args.numbers.now (slice_index c.args.carrier.now c.loop-k.k) < n) (sym c.loop-k.invariant.long) below

pub returns-then-is_gt-clause-best : goal.returns-then-is_gt-clause-best
returns-then-is_gt-clause-best c =
    let n = c.args.numbers.now in
    let g = c.args.carrier.now in
    let place = c.requires.carrier.below _ (in_at g c.loop-k.k 0 c.loop-k-test.true) in
    let below = c.requires.below _ (in_at n (slice_index g c.loop-k.k) 0 place) in
    let low = subst (λ (m : ℕ). slice_index n (slice_index g c.loop-k.k) < m) (sym c.loop-k.invariant.long) below in
    let long = forms_long n g c.args.best.now c.requires.long c.requires.carrier.long in
    let at = noted_tells n g c.loop-k.k _ c.first_noted-first.result c.loop-k.firsts _ c.loop-k-test.true refl c.loop-k.invariant.noted low c.first_noted-first.ensures.firsts c.first_noted-first.ensures.first in
    lowering_stops (form_by n g) c.args.best.now long c.loop-k.k c.loop-k.order c.cmp.result c.then-order.result c.loop-k.best c.first_noted-first.result (slice_index c.loop-k.best c.loop-k.k)
    (forms_within n g c.loop-k.k c.loop-k-test.true) at refl c.cmp.ensures c.then-order.ensures c.loop-k.invariant.lowering (sym c.is_gt.ensures ∙ c.if-is_gt.true)

pub loop-k-preserved : goal.loop-k-preserved
loop-k-preserved c =
    let n = c.args.numbers.now in
    let g = c.args.carrier.now in
    let place = c.requires.carrier.below _ (in_at g c.loop-k.k 0 c.loop-k-test.true) in
    let below = c.requires.below _ (in_at n (slice_index g c.loop-k.k) 0 place) in
    let low = subst (λ (m : ℕ). slice_index n (slice_index g c.loop-k.k) < m) (sym c.loop-k.invariant.long) below in
    let long = forms_long n g c.args.best.now c.requires.long c.requires.carrier.long in
    let at = noted_tells n g c.loop-k.k _ c.first_noted-first.result c.loop-k.firsts _ c.loop-k-test.true refl c.loop-k.invariant.noted low c.first_noted-first.ensures.firsts c.first_noted-first.ensures.first in
    record {
      lowering =
          lowering_more (form_by n g) c.args.best.now long c.loop-k.k c.loop-k.order c.cmp.result c.then-order.result c.loop-k.best c.first_noted-first.result (slice_index c.loop-k.best c.loop-k.k)
          (forms_within n g c.loop-k.k c.loop-k-test.true) at refl c.cmp.ensures c.then-order.ensures c.loop-k.invariant.lowering (sym c.is_gt.ensures ∙ c.if-is_gt.false);
      noted = noted_next n g c.loop-k.k _ c.first_noted-first.result c.loop-k.firsts _ c.loop-k-test.true refl c.loop-k.invariant.noted low c.first_noted-first.ensures.firsts;
      long =
          ap (λ (t : List ℕ). length t) c.first_noted-first.ensures.firsts ∙ noted_long c.loop-k.firsts (slice_index n (slice_index g c.loop-k.k)) (c.loop-k.k + 1)
          ∙ c.loop-k.invariant.long;
    }

pub returns-clause-best : goal.returns-clause-best
returns-clause-best c =
    let n = c.args.numbers.now in
    let g = c.args.carrier.now in
    lowering_ends (form_by n g) c.args.best.now (forms_long n g c.args.best.now c.requires.long c.requires.carrier.long) c.loop-k.k c.loop-k.order c.loop-k.best
    (forms_past n g c.loop-k.k c.loop-k-test.false) c.loop-k.invariant.lowering

pub returns-then-starts_above-clause-best : goal.returns-then-starts_above-clause-best
returns-then-starts_above-clause-best c = c.starts_above.ensures c.if-starts_above.true
