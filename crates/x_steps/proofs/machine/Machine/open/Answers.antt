use Rattle.std.proofs.Common.{◌∙◌}
use Rattle.x_steps.proofs.MachineLemmas.{opens_ready, chosen_for, kept_at}
use Rattle.x_steps.proofs.machine.Machine.open.Goals as goal

pub choose-item-requires-clause-open : goal.choose-item-requires-clause-open
choose-item-requires-clause-open g c = opens_ready _ _ _ _ _ _ (kept_at c.self.view_is c.requires c.self.invariant)

pub open_list-requires-clause-item : goal.open_list-requires-clause-item
open_list-requires-clause-item g c = c.choose-item.ensures ∙ chosen_for c.self.view_is c.requires c.self.invariant
