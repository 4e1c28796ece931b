use Rattle.std.proofs.Common.{ap, ◌∙◌}
use Rattle.lab_book.specs.Tile.{TileValue}
use Rattle.lab_book.proofs.StepLemmas.{post_keeps}
use Rattle.lab_book.proofs.book.Book.commit_post.Goals as goal

pub invariant_of-self-2 : goal.invariant_of-self-2
invariant_of-self-2 c =
    let asked = rw (← c.self.view_is) at c.requires.outcome in
    let within = rw (← c.self.view_is) at c.requires.within in
    let leased = rw (← c.self.view_is) at c.requires.leased in
    let same = rw (← c.self.view_is) at c.requires.same in
    let fine = rw (← c.self.view_is) at c.requires.fine in
    let stop = c.stop-stop.ensures ∙ ap (λ (t : TileValue). t.stop) c.tile.ensures in
    post_keeps _ _ _ _ _ _ _ c.self.invariant _ _ _ within c.args.stretch _ _ _ asked leased same c.is_sound.ensures.stretch fine
    c.in-Ok.ensures.kept c.in_default-add.ensures.added stop c.waiting-waiting.ensures c.add-2.ensures
