use Rattle.std.proofs.Common.{◌≡◌, ◌≤◌, ◌+◌, ◌-◌, ◌++◌, map}
use Rattle.poly_place.specs.Turns.{from_right}
use Rattle.poly_place.proofs.nodes.push_from_right.Given as goal

-- with what the rest of the way adds there is all that the whole way adds
abbrev pub invariant-loop-level : goal.invariant-loop-level
invariant-loop-level l = record {
  rest : l.items.items ++ map (λ h. l.before + h) (from_right (l.levels - l._level) l.node) ≡ l.initial.items.items ++ map (λ h. l.before + h) (from_right l.levels l.leaf);
  below : l.node ≤ l.leaf;
}
