use Rattle.std.proofs.Common.{◌≡◌, ◌+◌, map, take, length, sum_by}
use Rattle.cover_problem.proofs.validation.are_few.Given as goal

abbrev pub invariant-loop-option : goal.invariant-loop-option
invariant-loop-option l = l.left + sum_by length (map (λ o. o.items) (take l.option-index l.options)) ≡ l.most
