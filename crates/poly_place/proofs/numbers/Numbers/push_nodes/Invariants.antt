use Rattle.std.proofs.Common.{◌≡◌, ◌+◌, ◌-◌, ◌*◌, ◌^◌, ◌++◌, flat_map, map, take}
use Rattle.poly_place.specs.Packings.{thing_item, tree_levels, nodes_by, pairs}
use Rattle.poly_place.specs.Compiled.{before_nodes}
use Rattle.poly_place.proofs.numbers.Numbers.push_nodes.Given as goal

-- the items of the nodes of the pairs so far are added
abbrev pub invariant-loop-pair : goal.invariant-loop-pair
invariant-loop-pair l = record {
  so_far : l.option.items ≡ l.initial.option.items ++ map (thing_item l.self) (flat_map (nodes_by l.self l.choice) (take l.pair-index (pairs l.self)));
  count : l.before ≡ before_nodes l.self + l.pair-index * (2 ^ tree_levels l.self - 1);
}
