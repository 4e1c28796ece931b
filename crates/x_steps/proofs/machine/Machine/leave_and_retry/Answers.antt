use Rattle.std.proofs.Common.{◌∙◌, ap, sym}
use Rattle.x_steps.proofs.RoundLemmas.{leaves_to_X6, one_back, two_back}
use Rattle.x_steps.proofs.machine.Machine.leave_and_retry.Goals as goal

pub returns-in_default : goal.returns-in_default
returns-in_default g c = record {
  problem = c.leave-event.ensures.problem;
  round = λ counts. one_back c.leave-event.ensures counts c.requires;
}

pub retry-event-requires-clause-label : goal.retry-event-requires-clause-label
retry-event-requires-clause-label g c = leaves_to_X6 c.leave-event.ensures c.requires (sym (ap (λ m. m.state.cursor) c.self.view_is) ∙ c.in-At.is)

pub returns-clause-round : goal.returns-clause-round
returns-clause-round g c = λ counts. two_back c.leave-event.ensures counts c.requires c.retry-event.ensures (sym (ap (λ m. m.state.cursor) c.self.view_is) ∙ c.in-At.is)
