use Rattle.std.proofs.Common.{◌≡◌, map, take, vec_items}
use Rattle.poly_place.specs.Compiled.{left_items}
use Rattle.poly_place.proofs.compiled.leaving_options.Given as goal

-- the options that leave out these copies so far
abbrev pub invariant-loop-left : goal.invariant-loop-left
invariant-loop-left l = map vec_items l.options.items ≡ map (left_items l.numbers) (map vec_items (take l.left-index l.lefts))
