use Rattle.std.proofs.Common.{inr}
use Rattle.lab_book.proofs.BookLemmas.{judged_err}
use Rattle.lab_book.proofs.CallLemmas.{call_made, lease_is}
use Rattle.lab_book.proofs.book.Book.lease.Goals as goal

pub refuse-requires : goal.refuse-requires
refuse-requires c = rw (← c.self.view_is)
    (judged_err _ _ _ _ _ _ _ (lease_is _ c.args.w c.args.id) (inr c.waiting_place.ensures.place) c.in-Err.is)

pub lend-requires-clause-outcome : goal.lend-requires-clause-outcome
lend-requires-clause-outcome c = rw (← c.self.view_is)
    (call_made _ _ _ _ _ _ _ (lease_is _ c.args.w c.args.id) (inr c.waiting_place.ensures.place) c.in-Ok.is)
