use Rattle.std.proofs.Common.{◌≡◌, take}
use Rattle.poly_place.specs.Compiled.{left_items}
use Rattle.poly_place.proofs.numbers.Numbers.items_of.Given as goal

-- the items of the names so far
abbrev pub invariant-loop-name : goal.invariant-loop-name
invariant-loop-name l = l.items.items ≡ left_items l.self (take l.name-index l.names)
