use Rattle.std.proofs.Common.{◌≡◌, map, take}
use Rattle.poly_place.specs.Chosen.{choice_numbered, numbering}
use Rattle.poly_place.proofs.packing.chosen.Given as goal

-- the choices of the numbers so far
abbrev pub invariant-loop-number : goal.invariant-loop-number
invariant-loop-number l = l.chosen.items ≡ map (choice_numbered l.choices) (numbering l.choices (take l.number-index l.numbers))
