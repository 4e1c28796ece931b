use Rattle.std.proofs.Common.{◌^◌, ◌∙◌, ℕ, arith, ap, flat_map, length, List}
use Rattle.poly_texts.specs.Kinds.{KindValue, kind_equal}
use Rattle.poly_texts.specs.Puzzle.{equal_names}
use Rattle.poly_place.specs.Packings.{levels_for, neighbours}
use Rattle.poly_place.proofs.CountLemmas.{are_few, needed_count}
use Rattle.poly_place.proofs.NumberedLemmas.{levels_are}
use Rattle.poly_place.proofs.numbers.Numbers.of.Goals as goal

pub overflow_add-before : goal.overflow_add-before
overflow_add-before c =
    let few = are_few c.args.puzzle.now c.requires.puzzle in
    let a = ap length c.requires.pieces in
    let b = ap length c.requires.cells in
    let d = ap length c.maybe_pieces.ensures in
    omega arith

pub overflow_add-before-2 : goal.overflow_add-before-2
overflow_add-before-2 c =
    let few = are_few c.args.puzzle.now c.requires.puzzle in
    let a = ap length c.requires.pieces in
    let b = ap length c.requires.cells in
    let d = ap length c.maybe_pieces.ensures in
    let e = ap length c.maybe_cells.ensures in
    omega arith

pub overflow_cast-before : goal.overflow_cast-before
overflow_cast-before c =
    let few = are_few c.args.puzzle.now c.requires.puzzle in
    let a = ap length c.requires.pieces in
    let b = ap length c.requires.cells in
    let d = ap length c.maybe_pieces.ensures in
    let e = ap length c.maybe_cells.ensures in
    omega arith

pub invariant_of-result : goal.invariant_of-result
unfolding equal_names
invariant_of-result c =
    let count = needed_count c.args.puzzle.now in
    let a = ap length c.requires.pieces in
    let b = ap length c.requires.cells in
    let d = ap length c.maybe_pieces.ensures in
    let e = ap length c.maybe_cells.ensures in
    let same = ap levels_for (ap length (c.cells.ensures.value ∙ c.region.ensures.value)) ∙ levels_are c.args.puzzle.now in
    record {
      items = c.in_ok-numbers.ensures;
      places_are = c.in_ok-places.ensures;
      pairs_same = c.in_ok-pairs.ensures ∙ ap (λ (ks : List KindValue). flat_map neighbours (flat_map kind_equal ks)) c.kinds.ensures;
      levels_same = c.tree_for-levels.ensures.levels ∙ same;
      leaves_same = c.tree_for-levels.ensures.leaves ∙ ap (λ (k : ℕ). 2 ^ k) same;
      before_same = omega arith;
    }
