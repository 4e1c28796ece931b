use Rattle.x_steps.proofs.ReadLemmas.{none_chosen, ready_at_X4, chosen_at_X4, some_at_X5, chosen_at_X5, some_last, chosen_at_X7, option_at_X6, within_X6, chosen_at_X6}
use Rattle.x_steps.proofs.machine.Machine.chosen_item.Goals as goal

pub choose-requires-clause-open : goal.choose-requires-clause-open
choose-requires-clause-open g c = ready_at_X4 _ _ _ _ _ c.self.invariant c.in-X4-default.is-0

pub last_covered-requires : goal.last_covered-requires
last_covered-requires g c = some_at_X5 _ _ _ _ _ c.self.invariant c.in-X5-default.is-0

pub last_covered-requires-in-X7-default : goal.last_covered-requires-in-X7-default
last_covered-requires-in-X7-default g c = some_last _ _ _ _ _ c.self.invariant c.in-X7-default.is-0

pub option-requires : goal.option-requires
option-requires g c = let w = option_at_X6 _ _ _ _ _ c.self.invariant _ c.in-X6-At.is-0 c.in-X6-At.is-1 in record { some = w.0; within = w.1 }

pub overflow_sub-result : goal.overflow_sub-result
overflow_sub-result g c = (within_X6 _ _ _ _ _ c.self.invariant _ c.in-X6-At.is-0 c.in-X6-At.is-1 _ _ c.option.ensures c.covered-covered.ensures.list).0

pub bounds-covered-covered : goal.bounds-covered-covered
bounds-covered-covered g c = (within_X6 _ _ _ _ _ c.self.invariant _ c.in-X6-At.is-0 c.in-X6-At.is-1 _ _ c.option.ensures c.covered-covered.ensures.list).1

pub returns-in-X4-default : goal.returns-in-X4-default
returns-in-X4-default g c = rw (← c.self.view_is) (chosen_at_X4 _ _ _ _ _ c.self.invariant c.in-X4-default.is-0 _ c.choose.ensures)

pub returns-in-X5-default : goal.returns-in-X5-default
returns-in-X5-default g c = rw (← c.self.view_is) (chosen_at_X5 _ _ _ _ _ c.self.invariant c.in-X5-default.is-0 _ c.last_covered.ensures)

pub returns-in-X7-default : goal.returns-in-X7-default
returns-in-X7-default g c = rw (← c.self.view_is) (chosen_at_X7 _ _ _ _ _ c.self.invariant c.in-X7-default.is-0 _ c.last_covered-in-X7-default.ensures)

pub returns-in-X6-At : goal.returns-in-X6-At
returns-in-X6-At g c = rw (← c.self.view_is) (chosen_at_X6 _ _ _ _ _ c.self.invariant _ c.in-X6-At.is-0 c.in-X6-At.is-1 _ _ c.option.ensures c.covered-covered.ensures.list)

pub returns-in_default : goal.returns-in_default
returns-in_default g c = rw (← c.self.view_is) (none_chosen _ _ _ _ _ c.self.invariant c.in_default.not-X4-0 c.in_default.not-X5-0 c.in_default.not-X6-0 c.in_default.not-X7-0)
