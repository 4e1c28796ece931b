use Rattle.std.proofs.Common.{arith, refl, ◌∙◌, ap, length}
use Rattle.poly_place.proofs.NumberLemmas.{written_places}
use Rattle.poly_place.proofs.TableLemmas.{few_in_grid}
use Rattle.poly_place.proofs.items.region_places.Goals as goal

pub number_cells-requires-clause-room : goal.number_cells-requires-clause-room
number_cells-requires-clause-room c = let few = few_in_grid c.args.region.now c.requires in omega (arith, few)

pub returns : goal.returns
returns c =
    written_places c.args.region.now c.deref_mut.result.now c.number_cells.new.numbers _ _ 32768 c.in_ok-places.places.len c.requires
    (c.deref_mut.ensures.value ∙ c.in_ok-places.ensures.value) (ap length c.deref_mut.ensures.value ∙ c.in_ok-places.ensures.long) c.deref_mut.ensures.len c.number_cells.ensures refl
