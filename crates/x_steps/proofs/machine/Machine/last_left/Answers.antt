use Rattle.x_steps.proofs.BackLemmas.{item_within, last_is}
use Rattle.x_steps.proofs.MachineLemmas.{some_chosen, kept_at}
use Rattle.x_steps.proofs.machine.Machine.last_left.Goals as goal

pub last_covered-item-requires : goal.last_covered-item-requires
last_covered-item-requires g c = some_chosen _ _ _ _ _ _ (kept_at c.self.view_is c.requires c.self.invariant)

pub last_option-requires : goal.last_option-requires
last_option-requires g c = let w = item_within _ _ _ _ _ _ _ c.last_covered-item.ensures (kept_at c.self.view_is c.requires c.self.invariant) in record { some = w.0; within = w.1 }

pub returns : goal.returns
returns g c = rw (← c.self.view_is) (last_is _ _ _ _ _ _ _ c.last_covered-item.ensures _ c.last_option.ensures (kept_at c.self.view_is c.requires c.self.invariant))
