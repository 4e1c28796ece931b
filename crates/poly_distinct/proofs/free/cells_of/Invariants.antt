use Rattle.std.proofs.Common.{◌≡◌, map, take, vec_items}
use Rattle.poly_place.specs.Packings.{ChoiceValue}
use Rattle.poly_distinct.proofs.free.cells_of.Given as goal

-- the sets of cells so far
abbrev pub invariant-loop-choice : goal.invariant-loop-choice
invariant-loop-choice l = map vec_items l.sets.items ≡ map (λ (c : ChoiceValue). c.cells) (take l.choice-index l.choices)
