use Rattle.lab_tickets.proofs.RuleLemmas.{pushes}
use Rattle.lab_tickets.proofs.deques.OwnDeque.push.Goals as goal

pub push_as-requires-clause-pushes : goal.push_as-requires-clause-pushes
push_as-requires-clause-pushes c = rw c.args.self.now.first (pushes _ _)
