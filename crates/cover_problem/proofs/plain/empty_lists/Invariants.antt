use Rattle.std.proofs.Common.{◌≡◌, map, replicate, []}
use Rattle.cover_problem.proofs.plain.empty_lists.Given as goal

abbrev pub invariant-loop : goal.invariant-loop
invariant-loop l = map (λ o. o.items) l.lists.items ≡ replicate l.counter []
