use Rattle.std.proofs.Common.{ℕ, ◌-◌, List, drop, length, ap, ◌∙◌, arith, refl}
use Rattle.std.proofs.lemmas.List.{length-map}
use Rattle.poly_place.specs.Classes.{part_at}
use Rattle.poly_place.proofs.FormTableLemmas.{parts_begin, parts_more, places_low}
use Rattle.poly_place.proofs.forms.parts_in.Goals as goal

pub loop-k-init : goal.loop-k-init
loop-k-init c =
    parts_begin c.args.region.now c.args.placements.now (length c.args.region.now) (length c.args.placements.now) c.in_ok-parts.parts.items refl refl c.in_ok-parts.ensures

pub paint_parts-parts-requires-clause-room : goal.paint_parts-parts-requires-clause-room
paint_parts-parts-requires-clause-room c =
    places_low c.args.region.now c.args.places.now c.loop-k.parts.items c.requires.shape c.requires.places
    (ap (λ (ks : List ℕ). length ks) c.loop-k.invariant ∙ length-map c.args.region.now (part_at (drop (length c.args.placements.now - c.loop-k.k) c.args.placements.now)))

pub loop-k-preserved : goal.loop-k-preserved
loop-k-preserved c =
    parts_more c.args.region.now c.args.places.now c.args.placements.now c.loop-k.k (length c.args.placements.now) c.index-placements-count.result c.cells.result.now c.loop-k.parts.items c.paint_parts-parts.result.items
    c.requires.shape c.requires.places refl (let lt = c.loop-k-test.true in omega (arith, lt)) c.index-placements-count.is c.cells.ensures c.loop-k.invariant c.paint_parts-parts.ensures
