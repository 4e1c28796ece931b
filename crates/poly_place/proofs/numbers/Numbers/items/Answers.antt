use Rattle.std.proofs.Common.{arith, ap, length, ◌^◌, ◌∙◌}
use Rattle.poly_texts.specs.Puzzle.{PuzzleValue}
use Rattle.poly_place.specs.Packings.{tree_levels, pairs}
use Rattle.poly_place.specs.Compiled.{before_nodes}
use Rattle.poly_place.proofs.NumberedLemmas.{are_counted}
use Rattle.poly_place.proofs.numbers.Numbers.items.Goals as goal

pub overflow_mul-result : goal.overflow_mul-result
overflow_mul-result c =
    let k =
    are_counted c.args.self.now c.requires (length c.as_slice.result.now) c.self.inside.leaves c.self.inside.before (ap length (c.as_slice.ensures.value ∙ c.self.invariant.pairs_same ∙ ap pairs c.self.view_is))
    (c.self.invariant.leaves_same ∙ ap (λ (p : PuzzleValue). 2 ^ tree_levels p) c.self.view_is) (c.self.invariant.before_same ∙ ap before_nodes c.self.view_is) in
    let product = k.product in
    omega arith

pub overflow_add-result : goal.overflow_add-result
overflow_add-result c =
    let k =
    are_counted c.args.self.now c.requires (length c.as_slice.result.now) c.self.inside.leaves c.self.inside.before (ap length (c.as_slice.ensures.value ∙ c.self.invariant.pairs_same ∙ ap pairs c.self.view_is))
    (c.self.invariant.leaves_same ∙ ap (λ (p : PuzzleValue). 2 ^ tree_levels p) c.self.view_is) (c.self.invariant.before_same ∙ ap before_nodes c.self.view_is) in
    let product = k.product in
    let low = k.before_low in
    omega arith

pub returns : goal.returns
returns c =
    let k =
    are_counted c.args.self.now c.requires (length c.as_slice.result.now) c.self.inside.leaves c.self.inside.before (ap length (c.as_slice.ensures.value ∙ c.self.invariant.pairs_same ∙ ap pairs c.self.view_is))
    (c.self.invariant.leaves_same ∙ ap (λ (p : PuzzleValue). 2 ^ tree_levels p) c.self.view_is) (c.self.invariant.before_same ∙ ap before_nodes c.self.view_is) in
    k.all
