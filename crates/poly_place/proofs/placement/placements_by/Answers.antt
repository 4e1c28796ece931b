use Rattle.std.proofs.Common.{◌≡◌, sym, ap, subst, ◌∙◌, vec_items, map}
use Rattle.std.proofs.lemmas.Result.{IfOk-weaker}
use Rattle.poly_cells.specs.Shapes.{AllInGrid}
use Rattle.poly_place.specs.Placements.{placements, ArePlacements, turns_by}
use Rattle.poly_place.proofs.PlacementLemmas.{are_shapes, found_placements, are_placements}
use Rattle.poly_place.proofs.placement.placements_by.Goals as goal
use Rattle.poly_place.proofs.placement.placements_by.Goals.{After-put_sets_in_order}

-- the sets are the placements
found : (c : After-put_sets_in_order) → map vec_items c.put_sets_in_order.new.sets.items ≡ placements (turns_by c.args.group) c.args.piece.now c.args.region.now
found c =
    found_placements _ _ _ _ _ _ _ _ _ _ c.cells-cells.ensures.value c.in_ok-bits.ensures c.as_slice.ensures.value c.in_ok-turns.ensures (ap (map vec_items) c.as_slice-2.ensures.value)
    c.in_ok-sets.ensures c.put_sets_in_order.ensures

pub table_of-requires : goal.table_of-requires
table_of-requires c = subst AllInGrid (sym c.cells-cells.ensures.value) c.cells-cells.ensures.shape.limits

pub shapes_of-requires : goal.shapes_of-requires
shapes_of-requires c = are_shapes _ _ _ _ c.is_sound.ensures.shape c.cells-cells.ensures.shape (found c)

pub returns-clause-value : goal.returns-clause-value
returns-clause-value c = IfOk-weaker c.shapes_of.result _ _ (λ s e. e ∙ found (goal.at.returns-clause-value c).After-put_sets_in_order) c.shapes_of.ensures

pub returns-clause-exactly : goal.returns-clause-exactly
returns-clause-exactly c =
    IfOk-weaker c.shapes_of.result _ _
    (λ s e. subst (ArePlacements (turns_by c.args.group) c.args.piece.now c.args.region.now) (sym (e ∙ found (goal.at.returns-clause-exactly c).After-put_sets_in_order))
    (are_placements (turns_by c.args.group) c.args.piece.now c.args.region.now c.is_sound.ensures.shape c.cells-cells.ensures.shape))
    c.shapes_of.ensures
