use Rattle.std.proofs.Common.{List, sym, subst, ◌∙◌}
use Rattle.poly_cells.specs.Coordinates.{Coordinates}
use Rattle.poly_place.specs.Lists.{lists_of}
use Rattle.poly_cells.specs.Shapes.{IsShape}
use Rattle.poly_place.specs.Compiled.{ArePlacesOf}
use Rattle.poly_place.specs.Forms.{AreCarriers}
use Rattle.poly_distinct.proofs.moves.Moves.of.Goals as goal

pub region_places-requires : goal.region_places-requires
region_places-requires c = subst IsShape (sym c.cells.ensures.value) c.cells.ensures.shape

pub invariant_of-result : goal.invariant_of-result
invariant_of-result c =
    let gs = lists_of c.in_ok-carriers.carriers.items in
    record {
      sound = c.is_sound.ensures.puzzle;
      table = subst (λ (vs : List Coordinates). ArePlacesOf vs c.in_ok-places.places.items) (c.cells.ensures.value ∙ c.region.ensures.value) c.in_ok-places.ensures;
      carriers_are =
          subst (λ (vs : List Coordinates). AreCarriers c.args.group vs c.puzzle-puzzle.result.now.maybe_cells gs) c.region-2.ensures.value
          (subst (λ (ms : List Coordinates). AreCarriers c.args.group c.region-2.result.now ms gs) c.maybe_cells.ensures c.in_ok-carriers.ensures);
    }
