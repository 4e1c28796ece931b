use Rattle.std.proofs.Common.{map, string_bytes}
use Rattle.cover_problem.proofs.ProblemLemmas.{made_is}
use Rattle.cover_problem.proofs.problem.Problem.new.Goals as goal

pub returns-in-Ok-clause-parts : goal.returns-in-Ok-clause-parts
returns-in-Ok-clause-parts c = (made_is (map string_bytes c.args.names.items) c.args.primary (map (λ o. o.items) c.args.options.items) _ (rw (c.deref.ensures.value, c.deref-2.ensures.value) at c.in-Ok.ensures.made)).0
