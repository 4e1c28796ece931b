use Rattle.std.proofs.Common.{◌≡◌, map, vec_items}
use Rattle.poly_place.proofs.set.shapes_of.Given as goal

-- the sets so far
abbrev pub invariant-loop-set : goal.invariant-loop-set
invariant-loop-set l = record {
  can_next : (goal.iterator-loop-set).can_next l.set-iterator;
  is_finite : (goal.iterator-loop-set).is_finite l.set-iterator;
  same : l.shapes.items ≡ map vec_items l.yielded;
}
