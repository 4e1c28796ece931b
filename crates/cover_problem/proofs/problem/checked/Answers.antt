use Rattle.std.proofs.Common.{map, string_bytes}
use Rattle.cover_problem.proofs.ProblemLemmas.{made_is}
use Rattle.cover_problem.proofs.problem.checked.Goals as goal

pub invariant_of-result : goal.invariant_of-result
invariant_of-result c = rw c.in_ok-options.ensures (made_is (map string_bytes c.args.names.now) c.args.primary (map (λ o. o.items) c.args.options.now) _ c.in_ok-names.ensures.names).1
