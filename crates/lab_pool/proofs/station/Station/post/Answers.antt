use Rattle.std.proofs.Common.{sym}
use Rattle.cover_problem.proofs.ProblemLemmas.{is_same_decides}
use Rattle.lab_pool.proofs.station.Station.post.Goals as goal

pub post_compared-answer-requires-clause-same : goal.post_compared-answer-requires-clause-same
post_compared-answer-requires-clause-same g c = sym ((is_same_decides _ _).1 c.requires.own)
