use Rattle.x_steps.proofs.BackLemmas.{list_has, below_is}
use Rattle.x_steps.proofs.MachineLemmas.{cursor_in, some_chosen, kept_at}
use Rattle.x_steps.proofs.machine.Machine.option_before.Goals as goal

pub last_covered-item-requires : goal.last_covered-item-requires
last_covered-item-requires g c = some_chosen _ _ _ _ _ _ (kept_at c.self.view_is c.requires.label c.self.invariant)

pub prev_option-requires : goal.prev_option-requires
prev_option-requires g c = list_has _ _ _ _ _ _ _ c.last_covered-item.ensures _ (cursor_in c.self.view_is c.requires.cursor) (kept_at c.self.view_is c.requires.label c.self.invariant)

pub returns : goal.returns
returns g c = rw (← c.self.view_is) (below_is _ _ _ _ _ _ _ c.last_covered-item.ensures _ _ c.prev_option.ensures (kept_at c.self.view_is c.requires.label c.self.invariant))
