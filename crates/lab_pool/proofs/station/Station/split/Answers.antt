use Rattle.std.proofs.Common.{sym}
use Rattle.cover_problem.proofs.ProblemLemmas.{is_same_decides}
use Rattle.lab_pool.proofs.station.Station.split.Goals as goal

pub split_compared-answer-requires-clause-same : goal.split_compared-answer-requires-clause-same
split_compared-answer-requires-clause-same g c = sym ((is_same_decides _ _).1 c.requires.own)
