use Rattle.std.proofs.Common.{◌≡◌, ◌≤◌, ◌^◌}
use Rattle.poly_place.specs.Packings.{levels_for}
use Rattle.poly_place.proofs.NodeLemmas.{level_from}
use Rattle.poly_place.proofs.nodes.tree_for.Given as goal

-- no level so far has leaves enough
abbrev pub invariant-loop-level : goal.invariant-loop-level
invariant-loop-level l = record {
  doubled : l.leaves ≡ 2 ^ l.level;
  first : level_from l.cells l.level ≡ levels_for l.cells;
  within : l.level ≤ 12;
}
