use Rattle.std.proofs.Common.{◌<◌, ◌^◌, ◌∙◌, List, arith, ap, length, subst, sym}
use Rattle.poly_cells.specs.Coordinates.{Coordinates}
use Rattle.poly_texts.specs.Puzzle.{PuzzleValue}
use Rattle.poly_place.specs.Packings.{first_cell, tree_levels}
use Rattle.poly_place.specs.Compiled.{ArePlaces}
use Rattle.poly_place.proofs.NumberedLemmas.{choice_some, first_is, leaf_is, leaf_low, table_at}
use Rattle.poly_place.proofs.numbers.Numbers.leaf_of.Goals as goal

pub bounds-cells-0 : goal.bounds-cells-0
bounds-cells-0 c = subst (λ (vs : List Coordinates). 0 < length vs) (sym c.cells.ensures) (choice_some c.args.self.now c.requires.puzzle c.args.choice.now c.requires.member)

pub overflow_add-result : goal.overflow_add-result
overflow_add-result c =
    let first =
    first_is c.cells.result.now c.index-cells-0.result _ (subst (λ (vs : List Coordinates). 0 < length vs) (sym c.cells.ensures) (choice_some c.args.self.now c.requires.puzzle c.args.choice.now c.requires.member))
    c.index-cells-0.is ∙ ap first_cell c.cells.ensures in
    let places = subst (λ (p : PuzzleValue). ArePlaces p c.self.inside.places.items) c.self.view_is c.self.invariant.places_are in
    let at =
    table_at c.self.inside.places.items c.index-cells-0.result c.x.result c.y.result c.z.result c.bit_index.result c.index.result.now _ places.long c.x.ensures.value c.y.ensures.value c.z.ensures.value
    c.x.ensures.limit c.y.ensures.limit c.z.ensures.limit c.bit_index.ensures c.index.ensures in
    let leaf =
    leaf_is c.args.self.now c.requires.puzzle c.args.choice.now c.requires.member c.self.inside.places.items places c.index-cells-0.result c.self.inside.leaves first
    (c.self.invariant.leaves_same ∙ ap (λ (p : PuzzleValue). 2 ^ tree_levels p) c.self.view_is) in
    let low = leaf_low c.args.self.now c.requires.puzzle c.args.choice.now c.requires.member in
    omega (arith, leaf, low, at)

pub returns : goal.returns
returns c =
    let first =
    first_is c.cells.result.now c.index-cells-0.result _ (subst (λ (vs : List Coordinates). 0 < length vs) (sym c.cells.ensures) (choice_some c.args.self.now c.requires.puzzle c.args.choice.now c.requires.member))
    c.index-cells-0.is ∙ ap first_cell c.cells.ensures in
    let places = subst (λ (p : PuzzleValue). ArePlaces p c.self.inside.places.items) c.self.view_is c.self.invariant.places_are in
    let at =
    table_at c.self.inside.places.items c.index-cells-0.result c.x.result c.y.result c.z.result c.bit_index.result c.index.result.now _ places.long c.x.ensures.value c.y.ensures.value c.z.ensures.value
    c.x.ensures.limit c.y.ensures.limit c.z.ensures.limit c.bit_index.ensures c.index.ensures in
    let leaf =
    leaf_is c.args.self.now c.requires.puzzle c.args.choice.now c.requires.member c.self.inside.places.items places c.index-cells-0.result c.self.inside.leaves first
    (c.self.invariant.leaves_same ∙ ap (λ (p : PuzzleValue). 2 ^ tree_levels p) c.self.view_is) in
    omega (arith, leaf, at)
