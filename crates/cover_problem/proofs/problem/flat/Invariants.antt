use Rattle.std.proofs.Common.{◌≡◌, map, take}
use Rattle.cover_problem.proofs.problem.flat.Given as goal

abbrev pub invariant-loop-option : goal.invariant-loop-option
invariant-loop-option l = l.lists ≡ map (λ o. o.items) (take l.option-index l.options)
