use Rattle.std.proofs.Common.{◌≡◌, map, filter}
use Rattle.poly_place.specs.Packings.{choice_with, may_be_chosen}
use Rattle.poly_place.proofs.laying.choices_of.Given as goal

-- the choices of the placements so far
abbrev pub invariant-loop-cells : goal.invariant-loop-cells
invariant-loop-cells l = record {
  can_next : (goal.iterator-loop-cells).can_next l.cells-iterator;
  is_finite : (goal.iterator-loop-cells).is_finite l.cells-iterator;
  same : l.choices.items ≡ filter (may_be_chosen l.numbers) (map (choice_with l.name) l.yielded);
}
