use Rattle.lab_tickets.proofs.RuleLemmas.{takes}
use Rattle.lab_tickets.proofs.deques.OwnDeque.pop.Goals as goal

pub pop_as-requires-clause-fifo : goal.pop_as-requires-clause-fifo
pop_as-requires-clause-fifo c = λ _. takes _ _
