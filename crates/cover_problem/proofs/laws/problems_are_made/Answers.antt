use Rattle.cover_problem.proofs.ProblemLemmas.{made_exactly}
use Rattle.cover_problem.proofs.laws.problems_are_made.Goals as goal

pub returns : goal.returns
returns c = λ given. made_exactly given.names given.primary given.options
