use Rattle.std.proofs.Common.{sym}
use Rattle.cover_problem.proofs.ProblemLemmas.{is_same_decides}
use Rattle.lab_world.proofs.worker.Worker.post_held.Goals as goal

pub post_compared-requires : goal.post_compared-requires
post_compared-requires g c = sym ((is_same_decides c.args.self.now.runner.problem c.args.book.now.problem).1 c.requires.problem)
