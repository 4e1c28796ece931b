use Rattle.std.proofs.Common.{subst, sym, ◌∙◌, List}
use Rattle.std.proofs.lemmas.Result.{IfOk-weaker}
use Rattle.poly_cells.specs.Coordinates.{Coordinates}
use Rattle.poly_cells.specs.Shapes.{IsShape}
use Rattle.poly_place.specs.Compiled.{ArePlacesOf}
use Rattle.poly_place.proofs.NumberLemmas.{places_by_region}
use Rattle.poly_place.proofs.items.cell_places.Goals as goal

pub region_places-requires : goal.region_places-requires
region_places-requires c = subst IsShape (sym c.cells.ensures.value) c.cells.ensures.shape

pub returns : goal.returns
returns c =
    IfOk-weaker c.region_places.result _ _ (λ places are.
    places_by_region c.args.puzzle.now places.items (subst (λ (vs : List Coordinates). ArePlacesOf vs places.items) (c.cells.ensures.value ∙ c.region.ensures.value) are)) c.region_places.ensures
