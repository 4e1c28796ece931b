use Rattle.std.proofs.Common.{arith}
use Rattle.lab_book.specs.Totals.{of_visits, of_steps, of_level}
use Rattle.lab_book.proofs.totals.Totals.add.Goals as goal

pub overflow_add-self : goal.overflow_add-self
overflow_add-self c = let room = rw (← c.self.view_is) at c.requires.room in let r = room of_visits in omega (arith, c.ranges.visited.fits)

pub overflow_add-self-2 : goal.overflow_add-self-2
overflow_add-self-2 c = let room = rw (← c.self.view_is) at c.requires.room in let r = room of_steps in omega (arith, c.steps.type_inv)

pub add_counts_from-requires-clause-room : goal.add_counts_from-requires-clause-room
add_counts_from-requires-clause-room c =
    let room = rw (← c.self.view_is) at c.requires.room in
    rw c.deref_mut.ensures.value (λ level l. let r = room (of_level level) in omega arith)
