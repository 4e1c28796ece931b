use Rattle.std.proofs.Common.{◌≡◌, ◌≤◌, subst, ap, ◌∙◌}
use Rattle.lab_book.specs.Totals.{Measure, TotalsValue, of_visits, of_steps, of_level, measured, total}
use Rattle.lab_book.proofs.totals.Totals.take.Goals as goal

pub overflow_sub-self : goal.overflow_sub-self
overflow_sub-self c = let some = rw (← c.self.view_is) at c.requires.some in rw c.visited.ensures (some of_visits)

pub overflow_sub-self-2 : goal.overflow_sub-self-2
overflow_sub-self-2 c = let some = rw (← c.self.view_is) at c.requires.some in rw c.steps.ensures (some of_steps)

pub take_counts_from-requires-clause-some : goal.take_counts_from-requires-clause-some
take_counts_from-requires-clause-some c =
    let some = rw (← c.self.view_is) at c.requires.some in rw (c.levels-level.ensures, c.deref_mut.ensures.value) (λ k. some (of_level k))
