use Rattle.std.proofs.Common.{None, refl, ap, length}
use Rattle.lab_book.specs.Book.{BookValue}
use Rattle.lab_book.proofs.CallLemmas.{any_is}
use Rattle.lab_book.proofs.StepLemmas.{none_keeps, none_made, waiting_free}
use Rattle.lab_book.proofs.book.Book.lease_any.Goals as goal

pub invariant_of-self-in_default : goal.invariant_of-self-in_default
invariant_of-self-in_default c = rw c.next_waiting.ensures.unchanged
    (none_keeps _ _ _ _ _ _ _ c.self.invariant c.args.w _ (any_is _ c.args.w None c.in_default.ensures.place)
    c.in_ok-keep.ensures.kept c.add.ensures)

pub returns-in_default-clause-made : goal.returns-in_default-clause-made
returns-in_default-clause-made c = rw (← c.self.view_is, c.next_waiting.ensures.unchanged)
    (none_made _ _ _ _ _ _ _ c.self.invariant c.args.w _ (any_is _ c.args.w None c.in_default.ensures.place)
    c.in_ok-keep.ensures.kept c.add.ensures)

pub lend-requires-clause-free : goal.lend-requires-clause-free
lend-requires-clause-free c = rw c.next_waiting.ensures.unchanged (waiting_free _ _ c.in-Some.ensures.place)

pub lend-requires-clause-outcome : goal.lend-requires-clause-outcome
lend-requires-clause-outcome c = any_is _ c.args.w _ (rw (← c.next_waiting.ensures.unchanged) at c.in-Some.ensures.place)
