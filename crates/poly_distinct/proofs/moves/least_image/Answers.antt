use Rattle.std.proofs.Common.{ℕ, List, slice_index, sym, subst, arith, take_all}
use Rattle.poly_cells.specs.Sets.{IsIn}
use Rattle.poly_cells.proofs.SetLemmas.{in_at, in_map}
use Rattle.poly_place.specs.Forms.{carried}
use Rattle.poly_distinct.proofs.FirstImageLemmas.{image_more}
use Rattle.poly_distinct.proofs.moves.least_image.Goals as goal

pub offset_bounds-carrier-first : goal.offset_bounds-carrier-first
offset_bounds-carrier-first c = let below = c.requires.below _ c.requires.first in grind (arith, below, c.type_inv.carrier)

pub bounds-carrier-first : goal.bounds-carrier-first
bounds-carrier-first c = c.requires.below _ c.requires.first

pub loop-place-init : goal.loop-place-init
loop-place-init c = (in_map (slice_index c.args.carrier.now) c.args.first c.args.places.now c.requires.first, λ k i. absurd i)

pub offset_bounds-carrier-place : goal.offset_bounds-carrier-place
offset_bounds-carrier-place c =
    let below = c.requires.below _ (in_at c.args.places.now c.loop-place.place-index 0 c.loop-place-test.true) in
    grind (arith, below, c.type_inv.carrier)

pub bounds-carrier-place : goal.bounds-carrier-place
bounds-carrier-place c = c.requires.below _ (in_at c.args.places.now c.loop-place.place-index 0 c.loop-place-test.true)

pub loop-place-preserved : goal.loop-place-preserved
loop-place-preserved c = image_more c.args.carrier.now c.args.places.now c.loop-place.place-index _ _ c.loop-place-test.true c.loop-place.invariant.0 c.loop-place.invariant.1 c.min-least.ensures

pub returns : goal.returns
returns c = record {
  member = c.loop-place.invariant.0;
  below =
      λ k i. c.loop-place.invariant.1 k (subst (λ (ks : List ℕ). IsIn k (carried c.args.carrier.now ks)) (sym (take_all c.loop-place.place-index c.args.places.now c.loop-place-test.false)) i);
}
