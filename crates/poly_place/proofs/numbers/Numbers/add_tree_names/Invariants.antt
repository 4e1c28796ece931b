use Rattle.std.proofs.Common.{◌≡◌, ◌<◌, ◌-◌, ◌++◌, map}
use Rattle.std.specs.List.{range_with_len}
use Rattle.std.specs.String.{string_bytes}
use Rattle.poly_place.specs.Packings.{a_node, thing_name}
use Rattle.poly_place.proofs.numbers.Numbers.add_tree_names.Given as goal

-- the names of the nodes so far are added
abbrev pub invariant-loop-node : goal.invariant-loop-node
invariant-loop-node l = record {
  some : 0 < l.node;
  so_far : map string_bytes l.names.items ≡ map string_bytes l.initial.names.items ++ map thing_name (map (a_node (l.pair.0)) (range_with_len 1 (l.node - 1)));
}
