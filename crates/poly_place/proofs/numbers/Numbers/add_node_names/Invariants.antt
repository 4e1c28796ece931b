use Rattle.std.proofs.Common.{◌≡◌, ◌++◌, flat_map, map, take}
use Rattle.std.specs.String.{string_bytes}
use Rattle.poly_place.specs.Packings.{nodes, pairs, thing_name}
use Rattle.poly_place.proofs.numbers.Numbers.add_node_names.Given as goal

-- the names of the nodes of the pairs so far are added
abbrev pub invariant-loop-pair : goal.invariant-loop-pair
invariant-loop-pair l = map string_bytes l.names.items ≡ map string_bytes l.initial.names.items ++ map thing_name (flat_map (nodes l.self) (take l.pair-index (pairs l.self)))
