use Rattle.std.proofs.Common.{◌≡◌, map, take, vec_items}
use Rattle.poly_place.specs.Packings.{option_of}
use Rattle.poly_place.proofs.compiled.all_options.Given as goal

-- the options of the choices so far
abbrev pub invariant-loop-choice : goal.invariant-loop-choice
invariant-loop-choice l = map vec_items l.options.items ≡ map (option_of l.numbers) (take l.choice-index l.list)
