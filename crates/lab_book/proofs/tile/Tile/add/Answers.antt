use Rattle.std.proofs.Common.{◌∙◌}
use Rattle.lab_book.proofs.TileLemmas.{keeps_posted}
use Rattle.lab_book.proofs.tile.Tile.add.Goals as goal

pub invariant_of-self-2 : goal.invariant_of-self-2
invariant_of-self-2 c =
    let kept = rw (← c.deref_mut-parts.ensures.value) at c.self.invariant in
    keeps_posted _ _ _ _ _ c.deref_mut-parts.result.now.stretches _ c.args.stretch kept
    c.in_ok-push.ensures.added
    (c.in-Ok.ensures ∙ c.to_mark.ensures)
