use Rattle.lab_tickets.proofs.RuleLemmas.{admits}
use Rattle.lab_tickets.proofs.deques.OwnDeque.other.Goals as goal

pub pass-pass-requires : goal.pass-pass-requires
pass-pass-requires c = admits
