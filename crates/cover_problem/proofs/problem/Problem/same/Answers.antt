use Rattle.std.proofs.Common.{rules}
use Rattle.cover_problem.proofs.ProblemLemmas.{when_test}
use Rattle.cover_problem.proofs.problem.Problem.same.Goals as goal

pub returns-then-are_same_names-clause-equal : goal.returns-then-are_same_names-clause-equal
returns-then-are_same_names-clause-equal c = when_test c.args.self.now c.args.other.now c.are_same_options.result (search rules)

pub returns-else-are_same_names-clause-equal : goal.returns-else-are_same_names-clause-equal
returns-else-are_same_names-clause-equal c = when_test c.args.self.now c.args.other.now c.if-self-other.value (search rules)
