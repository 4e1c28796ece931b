use Rattle.std.proofs.Common.{[], arith}
use Rattle.x_steps.proofs.RoundLemmas.{gives_up_to_X7, closes_to_X8, closed_on}
use Rattle.x_steps.proofs.machine.Machine.close_and_retry.Goals as goal

pub close-requires : goal.close-requires
close-requires g c = gives_up_to_X7 c.give_up.ensures c.requires.label c.requires.cursor

pub leave_and_retry-rest-requires : goal.leave_and_retry-rest-requires
leave_and_retry-rest-requires g c = closes_to_X8 c.close.ensures (gives_up_to_X7 c.give_up.ensures c.requires.label c.requires.cursor)

pub overflow_add-result : goal.overflow_add-result
overflow_add-result g c = let w = (c.leave_and_retry-rest.ensures.round []).within in omega arith

pub returns-clause-round : goal.returns-clause-round
returns-clause-round g c = λ counts. closed_on c.give_up.ensures c.close.ensures c.requires.label c.requires.cursor counts _ _ _ (c.leave_and_retry-rest.ensures.round counts)
