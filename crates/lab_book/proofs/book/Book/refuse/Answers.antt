use Rattle.lab_book.proofs.StepLemmas.{refuse_keeps}
use Rattle.lab_book.proofs.book.Book.refuse.Goals as goal

pub invariant_of-self-2 : goal.invariant_of-self-2
invariant_of-self-2 c =
    let asked = rw (← c.self.view_is) at c.requires in
    refuse_keeps _ _ _ _ _ _ _ c.self.invariant _ _ c.args.fault _ asked c.in_default.not-OutOfMemory
    c.in-Ok.ensures c.in-Ok-keep.ensures.kept c.add.ensures
