use Rattle.std.proofs.Common.{◌≡◌, ◌<◌, ◌++◌, take}
use Rattle.poly_place.specs.Packings.{neighbours}
use Rattle.poly_place.proofs.nodes.add_neighbours.Given as goal

-- the neighbours among the names so far are added
abbrev pub invariant-loop-k : goal.invariant-loop-k
invariant-loop-k l = record {
  some : 0 < l.k;
  so_far : l.pairs.items ≡ l.initial.pairs.items ++ neighbours (take l.k l.names);
}
