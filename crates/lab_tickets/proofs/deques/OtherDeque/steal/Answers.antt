use Rattle.lab_tickets.proofs.RuleLemmas.{takes}
use Rattle.lab_tickets.proofs.deques.OtherDeque.steal.Goals as goal

pub steal_as-requires-clause-takes : goal.steal_as-requires-clause-takes
steal_as-requires-clause-takes c = takes _ _
