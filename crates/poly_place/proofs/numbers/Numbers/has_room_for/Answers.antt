use Rattle.std.proofs.Common.{◌∙◌, List, length, arith, ap, subst, sym}
use Rattle.poly_cells.specs.Coordinates.{Coordinates}
use Rattle.poly_cells.specs.Sets.{IsIn}
use Rattle.poly_texts.specs.Puzzle.{PuzzleValue}
use Rattle.poly_place.specs.Packings.{first_cell, place_of}
use Rattle.poly_place.proofs.NumberedLemmas.{first_is}
use Rattle.poly_place.proofs.PlaceLemmas.{place_within}
use Rattle.poly_place.proofs.numbers.Numbers.has_room_for.Goals as goal

pub overflow_sub-from_there : goal.overflow_sub-from_there
overflow_sub-from_there c =
    let region = c.region.ensures.value ∙ ap (λ (p : PuzzleValue). p.region) c.self.view_is in
    let first = first_is c.args.cells.now c.index-cells-0.result _ c.requires.some c.index-cells-0.is in
    let at = c.place_of.ensures ∙ ap (place_of c.args.self.now.region) first in
    let within = place_within c.region.result.now (first_cell c.args.cells.now) c.cells.ensures.shape.rises (subst (λ (vs : List Coordinates). IsIn (first_cell c.args.cells.now) vs) (sym region) c.requires.inside) in
    let same = ap (λ (vs : List Coordinates). place_of vs (first_cell c.args.cells.now)) region in
    let long = ap length c.cells.ensures.value in
    omega (arith, at, within, same, long)
