use Rattle.std.proofs.Common.{◌≡◌, ◌==◌, ◌++◌, Bool, ◌<◌, ◌+◌, ◌-◌, ◌^◌, ◌∙◌, ℕ, List, get_or, arith, ap, ap₂, length, subst}
use Rattle.poly_texts.specs.Puzzle.{PuzzleValue}
use Rattle.poly_place.specs.Packings.{thing_item, tree_levels, nodes_by, pairs}
use Rattle.poly_place.specs.Compiled.{before_nodes, numbers_if, items_from_right, items_from_left, pair_items}
use Rattle.poly_place.proofs.NumberedLemmas.{before_low, choice_leaf, flat_more, leaf_low, leaves_few, one_tree_more, pair_same}
use Rattle.poly_place.proofs.numbers.Numbers.push_nodes.Goals as goal

pub push_pair-requires : goal.push_pair-requires
push_pair-requires c =
    let same = c.as_slice-pair-items.ensures.value ∙ c.self.invariant.pairs_same ∙ ap pairs c.self.view_is in
    let lt = subst (λ (qs : List (ℕ × ℕ)). c.loop-pair.pair-index < length qs) same c.loop-pair-test.true in
    let before = before_low c.args.self.now c.requires.puzzle c.loop-pair.pair-index (omega (arith, lt)) in
    let leaf = leaf_low c.args.self.now c.requires.puzzle c.args.choice.now c.requires.member in
    let is = c.leaf_of-leaf.ensures in
    let count = c.loop-pair.invariant.count in
    omega (arith, before, leaf, is, count)

pub overflow_add-before : goal.overflow_add-before
overflow_add-before c =
    let same = c.as_slice-pair-items.ensures.value ∙ c.self.invariant.pairs_same ∙ ap pairs c.self.view_is in
    let lt = subst (λ (qs : List (ℕ × ℕ)). c.loop-pair.pair-index < length qs) same c.loop-pair-test.true in
    let before = before_low c.args.self.now c.requires.puzzle c.loop-pair.pair-index (omega (arith, lt)) in
    let few = leaves_few c.args.self.now in
    let leaves = c.self.invariant.leaves_same ∙ ap (λ (p : PuzzleValue). 2 ^ tree_levels p) c.self.view_is in
    let count = c.loop-pair.invariant.count in
    omega (arith, before, few, leaves, count)

pub loop-pair-preserved : goal.loop-pair-preserved
loop-pair-preserved c =
    let same = c.as_slice-pair-items.ensures.value ∙ c.self.invariant.pairs_same ∙ ap pairs c.self.view_is in
    let lt = subst (λ (qs : List (ℕ × ℕ)). c.loop-pair.pair-index < length qs) same c.loop-pair-test.true in
    let is = subst (λ (qs : List (ℕ × ℕ)). c.pair-item.result ≡ get_or qs c.loop-pair.pair-index c.pair-item.result) same c.pair-item.is in
    let made =
    ap₂ (λ (a b : Bool). numbers_if a (items_from_right c.loop-pair.before c.self.inside.levels c.leaf_of-leaf.result) ++ numbers_if b (items_from_left c.loop-pair.before c.self.inside.levels c.leaf_of-leaf.result))
    (c.sides_of-sides.ensures.first ∙ ap (λ (n : ℕ). n == c.pair-item.result.0) c.name.ensures) (c.sides_of-sides.ensures.second ∙ ap (λ (n : ℕ). n == c.pair-item.result.1) c.name.ensures)
    ∙ ap₂ (λ (l f : ℕ). pair_items c.args.choice.now.name c.pair-item.result c.loop-pair.before l f) (c.self.invariant.levels_same ∙ ap tree_levels c.self.view_is) c.leaf_of-leaf.ensures
    ∙ pair_same c.args.self.now c.requires.puzzle c.loop-pair.pair-index c.args.choice.now (choice_leaf c.args.self.now c.requires.puzzle c.args.choice.now c.requires.member) lt c.pair-item.result is c.loop-pair.before
    c.loop-pair.invariant.count in
    record {
      so_far =
          flat_more (thing_item c.args.self.now) (nodes_by c.args.self.now c.args.choice.now) (pairs c.args.self.now) c.loop-pair.pair-index c.pair-item.result c.args.option.now.items c.loop-pair.option.items
          c.push_pair.new.items.items _ lt is c.in_ok-push_pair.ensures made c.loop-pair.invariant.so_far;
      count =
          ap₂ (λ (x y : ℕ). x + (y - 1)) c.loop-pair.invariant.count (c.self.invariant.leaves_same ∙ ap (λ (p : PuzzleValue). 2 ^ tree_levels p) c.self.view_is)
          ∙ one_tree_more (before_nodes c.args.self.now) c.loop-pair.pair-index (2 ^ tree_levels c.args.self.now - 1);
    }
