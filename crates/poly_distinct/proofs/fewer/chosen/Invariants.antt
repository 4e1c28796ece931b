use Rattle.std.proofs.Common.{◌≡◌, map, take}
use Rattle.cover_problem.specs.Problem.{option_at}
use Rattle.poly_place.specs.Lists.{lists_of}
use Rattle.poly_distinct.proofs.fewer.chosen.Given as goal

-- the options so far
abbrev pub invariant-loop-number : goal.invariant-loop-number
invariant-loop-number l = lists_of l.options.items ≡ map (option_at l.problem) (take l.number-index l.kept)
