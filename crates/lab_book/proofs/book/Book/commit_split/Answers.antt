use Rattle.lab_book.proofs.SplitLemmas.{split_keeps}
use Rattle.lab_book.proofs.book.Book.commit_split.Goals as goal

pub invariant_of-self-2 : goal.invariant_of-self-2
invariant_of-self-2 c =
    let asked = rw (← c.self.view_is) at c.requires.outcome in
    let within = rw (← c.self.view_is) at c.requires.within in
    let leased = rw (← c.self.view_is) at c.requires.leased in
    let same = rw (← c.self.view_is) at c.requires.same in
    let fine = rw (← c.self.view_is) at c.requires.fine in
    split_keeps _ _ _ _ _ _ _ c.self.invariant _ _ _ within c.args.cut _ _ asked leased same c.is_sound.ensures.cut fine
    c.in-Ok.ensures.kept c.in-Ok-split.ensures.tiles c.in-Ok-split.ensures.numbered c.in-Ok-split.ensures.id c.add.ensures
